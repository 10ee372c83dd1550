-- Lax lines, and the strict line that each means.
use Rattle.std.specs.Prelude.{ℕ, ◌≡◌, ◌+◌, ◌-◌, ◌<◌, ◌≤◌, ◌==◌, ◌&&◌, ◌↔◌, Bool, true, false, if◌then◌else◌, IsTrue}
use Rattle.std.specs.Prelude.{List, [], ◌∷◌, ◌++◌, codes, drop, filter, length, map, nat_le, nat_lt, slice_index, take}
use Rattle.std.specs.Prelude.{Option}
use Rattle.std.specs.List.{join_with_byte, list_all}
use Rattle.std.specs.Io.KnownBytes.{IsAtEnd}
use Rattle.v_frame_planar.specs.Counted.{Watched}
use Rattle.v_frame_y4m.specs.Ascii.{carriage_return, digit_nine, digit_zero, line_feed, rate_letter, space}
use Rattle.v_frame_y4m.specs.Faults.{IsRefusedFor}
use Rattle.v_frame_y4m.specs.Header.{pieces, IsHeader}
use Rattle.v_frame_y4m.specs.Streams.{max_line_bytes, IsFrameLine, IsLine, MayStopInHeader, MayStopInLine, Took}
use Rattle.v_frame_y4m.specs.declared.header.StreamHeader.{StreamHeader}
use Rattle.v_frame_y4m.specs.declared.error.Y4mError.{Y4mError}
use Rattle.v_frame_y4m.specs.declared.error.Y4mError.TheVariants.{Header, LineTooLong, UnfinishedLine, NoFrame, Planar}

-- The last byte, or 0 if there is none.
abbrev pub last_byte : List ℕ → ℕ
last_byte line = slice_index line (length line - 1)

-- The line without one carriage return at its end, if it has one.
abbrev pub without_return : List ℕ → List ℕ
without_return line =
    if last_byte line == carriage_return then take (length line - 1) line else line

abbrev pub is_filled : List ℕ → Bool
is_filled [] = false
is_filled (byte ∷ bytes) = true

abbrev pub is_digit : ℕ → Bool
is_digit byte = nat_le digit_zero byte && nat_le byte digit_nine

-- A frame rate of a single number: the letter, followed by digits without a leading zero.
abbrev pub is_whole_rate : List ℕ → Bool
is_whole_rate piece =
    (slice_index piece 0 == rate_letter)
    && (nat_lt digit_zero (slice_index piece 1) && list_all is_digit (drop 1 piece))

-- A frame rate of a single number gets the denominator 1.
abbrev pub full_rate : List ℕ → List ℕ
full_rate piece = if is_whole_rate piece then piece ++ codes ":1" else piece

-- The pieces that are not empty, in their strict form and with one space between two.
abbrev pub joined : List (List ℕ) → List ℕ
joined pieces = join_with_byte space (map full_rate (filter is_filled pieces))

-- The strict line that a line means.
abbrev pub strict_line : List ℕ → List ℕ
strict_line line = joined (pieces (without_return line))

-- A line with one more piece, after a space if the line is not empty.
abbrev pub followed_by : List ℕ → List ℕ → List ℕ
followed_by [] piece = piece
followed_by (byte ∷ bytes) piece = byte ∷ bytes ++ space ∷ piece

-- The line in front of a frame, with or without a carriage return at its end.
abbrev pub IsLaxFrameLine : List ℕ → Type 0
IsLaxFrameLine line = IsFrameLine (without_return line)

module _ {R : Type 0} (remaining : R → Option (List ℕ)) (old new : Watched R) where
  -- A line was read, with its line feed. Its strict line states the header `found.0`, and `found.1`
  -- says whether the line is strict.
  abbrev pub ReadsLaxHeader : StreamHeader × Bool → Type 0
  ReadsLaxHeader found =
      (line : List ℕ) × IsHeader (strict_line line) found.0
      × (IsTrue found.1 ↔ (strict_line line ≡ line)) × IsLine line
      × (length line ≤ max_line_bytes) × Took remaining old new (line ++ line_feed ∷ [])

  -- The error may be reported if a header line, strict or lax, is expected.
  abbrev pub MayStopInLaxHeader : Y4mError → Type 0
  MayStopInLaxHeader (Header error) =
      ((line : List ℕ) × IsRefusedFor (strict_line line) error × IsLine line
      × (length line ≤ max_line_bytes) × Took remaining old new (line ++ line_feed ∷ []))
      × (new.failures ≡ old.failures)
  MayStopInLaxHeader LineTooLong = MayStopInHeader remaining old new LineTooLong
  MayStopInLaxHeader UnfinishedLine = MayStopInHeader remaining old new UnfinishedLine
  MayStopInLaxHeader NoFrame = ⊥
  MayStopInLaxHeader (Planar error) = MayStopInHeader remaining old new (Planar error)

  -- The line in front of a frame, strict or lax, was read, or the reader was at its end.
  abbrev pub ReadsLaxFrameLine : Bool → Type 0
  ReadsLaxFrameLine true =
      (line : List ℕ) × IsLaxFrameLine line × IsLine line × (length line ≤ max_line_bytes)
      × Took remaining old new (line ++ line_feed ∷ [])
  ReadsLaxFrameLine false = Took remaining old new [] × IsAtEnd (remaining new.inner)

  -- The error may be reported if a line in front of a frame, strict or lax, is expected.
  abbrev pub MayStopInLaxFrameLine : Y4mError → Type 0
  MayStopInLaxFrameLine (Header error) = ⊥
  MayStopInLaxFrameLine LineTooLong = MayStopInLine remaining old new max_line_bytes LineTooLong
  MayStopInLaxFrameLine UnfinishedLine =
      MayStopInLine remaining old new max_line_bytes UnfinishedLine
  MayStopInLaxFrameLine NoFrame =
      ((line : List ℕ) × ¬ (IsLaxFrameLine line) × IsLine line × (length line ≤ max_line_bytes)
      × Took remaining old new (line ++ line_feed ∷ []))
      × (new.failures ≡ old.failures)
  MayStopInLaxFrameLine (Planar error) =
      MayStopInLine remaining old new max_line_bytes (Planar error)
