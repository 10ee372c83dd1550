-- Commands that take no frame.
use Rattle.std.specs.Prelude.{ℕ, ◌==◌, if◌then◌else◌, Option, Some, None}
use Rattle.yuv_system.specs.declared.nothing.NothingTaken.{NothingTaken}
use Rattle.v_frame_streams.specs.declared.stream.Place.{Place}
use Rattle.v_frame_streams.specs.declared.stream.Place.TheVariants.{First}

-- The reason why no frame was taken of a stream of `frames` frames, if `taken` is 0.
abbrev pub nothing_of : ℕ → ℕ → ℕ → Option ℕ → Option NothingTaken
nothing_of taken frames skip count =
    if taken == 0 then Some (record { frames = frames; skip = skip; count = count }) else None

-- The value for the second of two streams if the first stream has more frames, and the value for
-- the first stream otherwise.
abbrev pub shorter : {X : Type 0} → Option Place → X → X → X
shorter (Some First) one other = other
shorter _ one other = one
