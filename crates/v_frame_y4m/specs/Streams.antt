-- Streams, which are a header line and frames with a line in front of each, and the effect of each
-- call on the reader or the writer.
use Rattle.std.specs.Prelude.{ℕ, ◌≡◌, ◌≢◌, ◌+◌, ◌<◌, ◌≤◌, ◌⊎◌, All, List, [], ◌∷◌, ◌++◌, Bool, true, false, codes}
use Rattle.std.specs.Prelude.{length, Option}
use Rattle.std.specs.Io.KnownBytes.{Consumes, IsAtEnd}
use Rattle.std.specs.declared.io.ErrorKind.{ErrorKind}
use Rattle.v_frame.specs.Prelude.{isize_max}
use Rattle.v_frame_planar.specs.Counted.{Watched, HasFailed}
use Rattle.v_frame_planar.specs.Planar.{MayStopReading, MayStopWriting, TellsCause}
use Rattle.v_frame_planar.specs.declared.error.PlanarError.{PlanarError}
use Rattle.v_frame_planar.specs.declared.error.PlanarError.TheVariants.{Truncated, TooLarge, Read, Write, WriteZero}
use Rattle.v_frame_planar.specs.declared.error.PlanarError.TheVariants.{OutOfMemory}
use Rattle.v_frame_y4m.specs.Ascii.{line_feed}
use Rattle.v_frame_y4m.specs.Faults.{IsRefusedFor}
use Rattle.v_frame_y4m.specs.Header.{IsHeader}
use Rattle.v_frame_y4m.specs.declared.header.StreamHeader.{StreamHeader}
use Rattle.v_frame_y4m.specs.declared.error.Y4mError.{Y4mError}
use Rattle.v_frame_y4m.specs.declared.error.Y4mError.TheVariants.{Header, LineTooLong, UnfinishedLine, NoFrame, Planar}

-- The largest number of bytes of a line, without its line feed.
abbrev pub max_line_bytes : ℕ
max_line_bytes = 1024

-- A line without its line feed.
abbrev pub IsLine : List ℕ → Type 0
IsLine line = All (λ byte. byte ≢ line_feed) line

-- The line in front of a frame: `FRAME`, optionally followed by a space and parameters.
abbrev pub IsFrameLine : List ℕ → Type 0
IsFrameLine line = (line ≡ codes "FRAME") ⊎ ((rest : List ℕ) × (line ≡ codes "FRAME " ++ rest))

module _ {R : Type 0} (remaining : R → Option (List ℕ)) (old new : Watched R) where
  -- These bytes were read, and nothing after them.
  abbrev pub Took : List ℕ → Type 0
  Took bytes = Consumes (remaining old.inner) (remaining new.inner) bytes

  -- A read failed, and no byte was read.
  abbrev pub StopsReadingByte : Y4mError → Type 0
  StopsReadingByte error =
      (error ≡ Planar Read) × Took [] × HasFailed old.failures new.failures

  -- The error may be reported inside a line that is limited to n bytes.
  abbrev pub MayStopInLine : ℕ → Y4mError → Type 0
  MayStopInLine n (Header error) = ⊥
  MayStopInLine n LineTooLong =
      ((bytes : List ℕ) × Took bytes × IsLine bytes × (length bytes ≡ n + 1))
      × (new.failures ≡ old.failures)
  MayStopInLine n UnfinishedLine =
      ((bytes : List ℕ) × Took bytes × IsLine bytes × (0 < length bytes) × (length bytes ≤ n))
      × IsAtEnd (remaining new.inner) × (new.failures ≡ old.failures)
  MayStopInLine n NoFrame = ⊥
  MayStopInLine n (Planar error) =
      (error ≡ Read) × ((bytes : List ℕ) × Took bytes × (length bytes ≤ n))
      × HasFailed old.failures new.failures

  -- A line that states the header `h` was read, with its line feed.
  abbrev pub ReadsHeader : StreamHeader → Type 0
  ReadsHeader h =
      (line : List ℕ) × IsHeader line h × IsLine line × (length line ≤ max_line_bytes)
      × Took (line ++ line_feed ∷ [])

  -- The error may be reported if a header line is expected.
  abbrev pub MayStopInHeader : Y4mError → Type 0
  MayStopInHeader (Header error) =
      ((line : List ℕ) × IsRefusedFor line error × IsLine line × (length line ≤ max_line_bytes)
      × Took (line ++ line_feed ∷ []))
      × (new.failures ≡ old.failures)
  MayStopInHeader LineTooLong = MayStopInLine max_line_bytes LineTooLong
  MayStopInHeader UnfinishedLine =
      ((bytes : List ℕ) × Took bytes × IsLine bytes × (length bytes ≤ max_line_bytes))
      × IsAtEnd (remaining new.inner) × (new.failures ≡ old.failures)
  MayStopInHeader NoFrame = ⊥
  MayStopInHeader (Planar error) = MayStopInLine max_line_bytes (Planar error)

  -- The line in front of a frame and these bytes after it were read, or the reader was at its end.
  abbrev pub ReadsFrame : List ℕ → Bool → Type 0
  ReadsFrame bytes true =
      (line : List ℕ) × IsFrameLine line × IsLine line × Took (line ++ line_feed ∷ bytes)
      × (length line ≤ max_line_bytes)
  ReadsFrame bytes false = Took [] × IsAtEnd (remaining new.inner)

  -- The line in front of a frame was read, and `count` bytes after it.
  abbrev pub TookOfFrame : ℕ → Type 0
  TookOfFrame count =
      (line : List ℕ) × IsFrameLine line × IsLine line × (length line ≤ max_line_bytes)
      × ((bytes : List ℕ) × Took (line ++ line_feed ∷ bytes) × (length bytes ≡ count))

  -- The error may be reported if n bytes of a frame are expected, after the line in front of them.
  abbrev pub MayStopInBytes : ℕ → Y4mError → Type 0
  MayStopInBytes n error =
      (fault : PlanarError) × (error ≡ Planar fault)
      × (MayStopReading remaining old new n fault
      ⊎ ((fault ≡ Truncated n 0) × Took [] × IsAtEnd (remaining new.inner)
      × (new.failures ≡ old.failures)))

  -- The error may be reported if a frame of n bytes is expected.
  abbrev pub MayStopInFrame : ℕ → Y4mError → Type 0
  MayStopInFrame n (Header error) = ⊥
  MayStopInFrame n LineTooLong = MayStopInLine max_line_bytes LineTooLong
  MayStopInFrame n UnfinishedLine = MayStopInLine max_line_bytes UnfinishedLine
  MayStopInFrame n NoFrame =
      ((line : List ℕ) × ¬ (IsFrameLine line) × IsLine line × (length line ≤ max_line_bytes)
      × Took (line ++ line_feed ∷ []))
      × (new.failures ≡ old.failures)
  MayStopInFrame n (Planar (Truncated expected found)) =
      (expected ≡ n) × ((found ≡ 0) ⊎ (found < n)) × TookOfFrame found
      × IsAtEnd (remaining new.inner) × (new.failures ≡ old.failures)
  MayStopInFrame n (Planar TooLarge) =
      (isize_max < n) × TookOfFrame 0 × (new.failures ≡ old.failures)
  MayStopInFrame n (Planar OutOfMemory) =
      (n ≤ isize_max) × TookOfFrame 0 × (new.failures ≡ old.failures)
  MayStopInFrame n (Planar Read) =
      (MayStopInLine max_line_bytes (Planar Read))
      ⊎ (((count : ℕ) × (count < n) × TookOfFrame count) × HasFailed old.failures new.failures)
  MayStopInFrame n (Planar Write) = ⊥
  MayStopInFrame n (Planar WriteZero) = ⊥

module _ {W : Type 0} (contents : W → Option (List ℕ)) (old new : Watched W) (bytes : List ℕ) where
  -- The error may be reported while a frame with these bytes is written, line included. No memory
  -- is allocated.
  abbrev pub MayStopWritingFrame : Y4mError → Type 0
  MayStopWritingFrame (Header error) = ⊥
  MayStopWritingFrame LineTooLong = ⊥
  MayStopWritingFrame UnfinishedLine = ⊥
  MayStopWritingFrame NoFrame = ⊥
  MayStopWritingFrame (Planar error) = MayStopWriting contents old new bytes error

  -- The error may be reported while a header line with these bytes is written. Memory is allocated
  -- first.
  abbrev pub MayStopWritingHeader : Y4mError → Type 0
  MayStopWritingHeader error =
      ((error ≡ Planar OutOfMemory) × (new ≡ old)) ⊎ MayStopWritingFrame error

-- If a read or a write failed, the kind of its error is recorded. Otherwise the last failure is
-- unchanged.
abbrev pub TellsStreamCause : Option ErrorKind → Option ErrorKind → Y4mError → Type 0
TellsStreamCause old new (Header error) = new ≡ old
TellsStreamCause old new LineTooLong = new ≡ old
TellsStreamCause old new UnfinishedLine = new ≡ old
TellsStreamCause old new NoFrame = new ≡ old
TellsStreamCause old new (Planar error) = TellsCause old new error
