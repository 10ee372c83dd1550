-- The sum so far plus the sum of the remaining pixels is the whole sum.
use Rattle.std.proofs.Common.{◌+◌, ◌-◌, ◌*◌, ◌^◌, length}
use Rattle.v_frame_resize.proofs.Sums.{SumSoFar}
use Rattle.v_frame_resize.proofs.rows.area.sum_of_row.Given as goal

abbrev pub invariant-loop-i : goal.invariant-loop-i
invariant-loop-i g l =
    SumSoFar g.T.Pixel.form.value (256 ^ g.T.Pixel.BYTES - 1) (length l.row) l.width l.x l.row l.i
    (l.head + l.width * l.inner)
