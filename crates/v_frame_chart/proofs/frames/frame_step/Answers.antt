-- The last number is large enough for any span.
use Rattle.std.proofs.Common.{ℕ, ◌*◌, ◌<◌, ◌^◌, arith}
use Rattle.v_frame_chart.specs.Frames.{round_number}
use Rattle.v_frame_chart.proofs.frames.frame_step.Goals as goal

too_large : (span : ℕ) → span < 2 ^ 63 → 8 * round_number 56 < span → ⊥
unfolding round_number
too_large span small above = omega arith

pub returns-clause-step : goal.returns-clause-step
returns-clause-step c =
    absurd (too_large c.args.span c.requires (c.loop-k.invariant 56 (omega arith)))
