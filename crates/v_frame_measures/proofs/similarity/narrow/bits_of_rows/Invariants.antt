-- The bits are an upper bound of each value of the rows processed so far.
use Rattle.std.proofs.Common.{ℕ, ◌<◌, List, get_or}
use Rattle.v_frame_measures.specs.ColumnSums.{IsUpTo}
use Rattle.v_frame_measures.proofs.similarity.narrow.bits_of_rows.Given as goal

abbrev pub invariant-loop-y : goal.invariant-loop-y
invariant-loop-y g l =
    (k : ℕ) (d : List g.row.T.Denot) → k < l.y → IsUpTo g.T.Pixel.form.value l.bits (get_or l.picture k d)
