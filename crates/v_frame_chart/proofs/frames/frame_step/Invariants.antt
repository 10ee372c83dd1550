-- The numbers so far were too small.
use Rattle.std.proofs.Common.{ℕ, ◌*◌, ◌<◌}
use Rattle.v_frame_chart.specs.Frames.{round_number}
use Rattle.v_frame_chart.proofs.frames.frame_step.Given as goal

abbrev pub invariant-loop-k : goal.invariant-loop-k
invariant-loop-k l = (k : ℕ) → k < l.k → 8 * round_number k < l.span
