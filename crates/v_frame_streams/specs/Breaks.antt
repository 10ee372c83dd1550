-- The progress of a copy that failed.
use Rattle.std.specs.Prelude.{ℕ, ◌≡◌, ◌+◌, ◌-◌, ◌≤◌, ◌⊎◌, length, min, List, Option}
use Rattle.v_frame_streams.specs.Streams.{most_frames, Framed, ReadsFrames}
use Rattle.v_frame_streams.specs.declared.sink.Sink.{Sink}
use Rattle.v_frame_streams.specs.declared.source.Source.{Source}
use Rattle.v_frame_streams.specs.declared.stream.Container.{Container}

-- The number of frames read of a stream, and the number of frames written.
abbrev pub counts_of : {R W : Type 0} → Source R → Sink W → ℕ × ℕ
counts_of source sink = (source.frames, sink.frames)

-- The counter `after` is `more` above the counter `begun`, unless it saturates at `most_frames`. If
-- `more` is 0, the counter is unchanged.
abbrev pub IsCountBehind : ℕ → ℕ → ℕ → Type 0
IsCountBehind begun more after =
    (after ≡ min (begun + more) most_frames) ⊎ ((more ≡ 0) × (after ≡ begun))

-- A copy that failed has read `frames` whole and counted them. There are no more than requested.
-- After the skipped frames, it counted each frame as written, except perhaps the last one.
pub record BreaksCopy (from : Container) (count : ℕ) (left : Option (List ℕ)) (skip most : ℕ)
    (begun after : ℕ × ℕ) : Type 0 where
  pub frames : List Framed
  pub mid : Option (List ℕ)
  pub read : ReadsFrames left mid from count frames
  pub bound : length frames ≤ skip + most
  pub counted : IsCountBehind begun.0 (length frames) after.0
  pub written : ℕ
  pub also_counted : IsCountBehind begun.1 written after.1
  pub behind : (written ≡ length frames - skip) ⊎ (written + 1 ≡ length frames - skip)
