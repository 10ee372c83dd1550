-- The bytes of a stream: a header line, if the container has one, and the frames.
use Rattle.std.specs.Prelude.{ℕ, ◌≡◌, ◌+◌, ◌-◌, ◌^◌, ◌≤◌, ◌⊎◌, ◌↔◌, All, Bool, true, false, List, [], ◌∷◌, ◌++◌, codes, flat_map, length}
use Rattle.std.specs.Prelude.{min, Option, Some, None}
use Rattle.std.specs.Io.KnownBytes.{Consumes, IsAtEnd}
use Rattle.v_frame_y4m.specs.Ascii.{line_feed}
use Rattle.v_frame_y4m.specs.Header.{header_line, IsHeader}
use Rattle.v_frame_y4m.specs.Lax.{strict_line, IsLaxFrameLine}
use Rattle.v_frame_y4m.specs.Streams.{max_line_bytes, IsLine}
use Rattle.v_frame_y4m.specs.declared.header.StreamHeader.{StreamHeader}
use Rattle.v_frame_streams.specs.declared.stream.Container.{Container}
use Rattle.v_frame_streams.specs.declared.stream.Container.TheVariants.{Y4m, Raw}
use Rattle.v_frame_streams.specs.declared.stream.Place.{Place}
use Rattle.v_frame_streams.specs.declared.stream.Place.TheVariants.{First, Second}

-- The largest number of frames that is counted.
abbrev pub most_frames : ℕ
most_frames = 2 ^ 64 - 1

-- A frame of a stream: the line in front of it, which is empty if the container has none, and the
-- bytes of its planes.
abbrev pub Framed : Type 0
Framed = List ℕ × List ℕ

-- The line is valid in front of a frame. It may be lax, and it is limited to `max_line_bytes`.
abbrev pub HasLine : Container → List ℕ → Type 0
HasLine Y4m line = IsLaxFrameLine line × IsLine line × (length line ≤ max_line_bytes)
HasLine Raw line = line ≡ []

-- The bytes of a frame with its line.
abbrev pub framed_bytes : Container → Framed → List ℕ
framed_bytes Y4m frame = frame.0 ++ line_feed ∷ frame.1
framed_bytes Raw frame = frame.1

-- The bytes of frames, one after the other.
abbrev pub stream_bytes : Container → List Framed → List ℕ
stream_bytes from frames = flat_map (framed_bytes from) frames

-- The line that is written in front of a frame.
abbrev pub frame_line : Container → List ℕ
frame_line Y4m = codes "FRAME" ++ line_feed ∷ []
frame_line Raw = []

-- The bytes that are written for a frame.
abbrev pub written_bytes : Container → List ℕ → List ℕ
written_bytes to bytes = frame_line to ++ bytes

-- The bytes that are written for a header.
abbrev pub header_bytes : Container → StreamHeader → List ℕ
header_bytes Y4m header = header_line header ++ line_feed ∷ []
header_bytes Raw header = []

-- A frame of `count` bytes, with a valid line.
pub record IsFrame (from : Container) (count : ℕ) (frame : Framed) : Type 0 where
  pub line : HasLine from frame.0
  pub size : length frame.1 ≡ count

-- The number of frames read whole after one more frame, or after none. The counter saturates.
abbrev pub frames_after : ℕ → Bool → ℕ
frames_after before true = min (before + 1) most_frames
frames_after before false = before

-- The stream that has one more frame, if the other one has none.
abbrev pub longer_of : Bool → Bool → Option Place
longer_of true false = Some First
longer_of false true = Some Second
longer_of _ _ = None

module _ (left left' : Option (List ℕ)) where
  -- A header line of at most `max_line_bytes` was read, with its line feed. Its strict line states
  -- this header, and `lax` says whether the line differs from its strict line.
  abbrev pub ReadsHeaderLine : StreamHeader → Bool → Type 0
  ReadsHeaderLine header lax =
      (line : List ℕ) × IsHeader (strict_line line) header
      × ((lax ≡ false) ↔ (strict_line line ≡ line))
      × IsLine line × (length line ≤ max_line_bytes)
      × Consumes left left' (line ++ line_feed ∷ [])

  -- The line in front of a frame was read, or the stream was at its end.
  abbrev pub ReadsLine : Bool → Type 0
  ReadsLine true =
      (line : List ℕ) × IsLaxFrameLine line × IsLine line × (length line ≤ max_line_bytes)
      × Consumes left left' (line ++ line_feed ∷ [])
  ReadsLine false = Consumes left left' [] × IsAtEnd left'

  -- The line in front of a frame and these bytes after it were read, or the stream was at its end.
  abbrev pub ReadsNext : Container → List ℕ → Bool → Type 0
  ReadsNext from bytes true =
      (line : List ℕ) × HasLine from line × Consumes left left' (framed_bytes from (line, bytes))
  ReadsNext from bytes false = Consumes left left' [] × IsAtEnd left'

  -- A whole frame of `count` bytes was read, or the stream was at its end.
  abbrev pub ReadsWhole : Container → ℕ → Bool → Type 0
  ReadsWhole from count true =
      (frame : Framed) × IsFrame from count frame × Consumes left left' (framed_bytes from frame)
  ReadsWhole from count false = Consumes left left' [] × IsAtEnd left'

  -- These frames were read, each of `count` bytes.
  pub record ReadsFrames (from : Container) (count : ℕ) (frames : List Framed) : Type 0 where
    pub whole : All (IsFrame from count) frames
    pub read : Consumes left left' (stream_bytes from frames)

  -- `found` frames were read, at most `most`. If there were fewer, the stream ended.
  pub record CountsFrames (from : Container) (count most found : ℕ) : Type 0 where
    pub frames : List Framed
    pub read : ReadsFrames from count frames
    pub counted : length frames ≡ found
    pub bound : found ≤ most
    pub ends : (found ≡ most) ⊎ IsAtEnd left'
