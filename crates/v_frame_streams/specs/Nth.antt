-- Reading one frame of a stream after skipping others.
use Rattle.std.specs.Prelude.{ℕ, ◌≡◌, ◌+◌, ◌≤◌, ◌∷◌, ◌++◌, [], Bool, true, false, length, List, min, Option}
use Rattle.std.specs.Io.KnownBytes.{IsAtEnd}
use Rattle.v_frame.specs.Prelude.{PixelForm, Tables}
use Rattle.v_frame_streams.specs.Pictures.{sizes_in, tables_of_bytes}
use Rattle.v_frame_streams.specs.Sources.{Stream}
use Rattle.v_frame_streams.specs.Streams.{most_frames, Framed, ReadsFrames}

-- The stream has at most `before` more frames. They were read and counted, and the stream is at its
-- end.
pub record EndsBefore (before : ℕ) (stream : Stream) (left left' : Option (List ℕ))
    (begun after : ℕ) : Type 0 where
  pub frames : List Framed
  pub read : ReadsFrames left left' stream.container stream.frame_len frames
  pub bound : length frames ≤ before
  pub ends : IsAtEnd left'
  pub counted : after ≡ min (begun + length frames) most_frames

module _ {T : Type 0} (form : PixelForm T) (before : ℕ) (stream : Stream)
    (left left' : Option (List ℕ)) (tables : Tables T) where
  -- `before` frames were skipped, and the next frame has these tables.
  pub record ReadsBehind : Type 0 where
    pub frames : List Framed
    pub frame : Framed
    pub passed : length frames ≡ before
    pub read : ReadsFrames left left' stream.container stream.frame_len (frames ++ frame ∷ [])
    pub shows : tables ≡ tables_of_bytes form stream.layout (sizes_in stream.header) frame.1

  -- `before` frames were skipped, and the next frame has these bytes and these tables. Or the
  -- stream has no frame after them and is at its end. The counter goes from `begun` to `after` and
  -- saturates.
  abbrev pub ReadsNth : List ℕ → ℕ → ℕ → Bool → Type 0
  ReadsNth bytes begun after true =
      (read : ReadsBehind) × (read.frame.1 ≡ bytes)
      × (after ≡ min (begun + (before + 1)) most_frames)
  ReadsNth bytes begun after false = EndsBefore before stream left left' begun after
