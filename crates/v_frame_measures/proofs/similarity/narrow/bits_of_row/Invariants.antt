-- The bits are an upper bound of each value processed so far.
use Rattle.std.proofs.Common.{ℕ, ◌<◌, ◌≤◌, get_or}
use Rattle.v_frame_measures.proofs.similarity.narrow.bits_of_row.Given as goal

abbrev pub invariant-loop-x : goal.invariant-loop-x
invariant-loop-x g l = (k : ℕ) (d : g.row.T.Denot) → k < l.x → g.T.Pixel.form.value (get_or l.row k d) ≤ l.bits
