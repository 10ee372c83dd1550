-- The sum so far plus the sum of the remaining rows is the whole sum.
use Rattle.std.proofs.Common.{◌+◌, ◌-◌, ◌*◌, ◌^◌}
use Rattle.v_frame.specs.Prelude.{width_of, height_of}
use Rattle.v_frame_resize.specs.Resize.{row_sum}
use Rattle.v_frame_resize.proofs.Sums.{SumSoFar}
use Rattle.v_frame_resize.proofs.rows.area.sum_of_area.Given as goal

abbrev pub invariant-loop-j : goal.invariant-loop-j
invariant-loop-j g l =
    SumSoFar (row_sum g.T.Pixel.form l.width l.x) ((256 ^ g.T.Pixel.BYTES - 1) * width_of l.source)
    (height_of l.source) l.size.1 l.fn.place.1 l.source l.j (l.head + l.size.1 * l.inner)
