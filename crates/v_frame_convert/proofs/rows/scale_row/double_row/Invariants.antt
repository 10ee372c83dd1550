-- The pixels processed so far are the expected means.
use Rattle.std.proofs.Common.{◌*◌}
use Rattle.v_frame_convert.specs.ScaledRows.{HoldsMeans}
use Rattle.v_frame_convert.specs.declared.scale.Scale.TheVariants.{Double}
use Rattle.v_frame_convert.proofs.rows.scale_row.double_row.Given as goal

abbrev pub invariant-loop-i : goal.invariant-loop-i
invariant-loop-i g l =
    HoldsMeans g.S.Pixel.form g.T.Pixel.form l.change.from l.change.to Double l.top l.bottom (2 * l.i) l.row

abbrev pub invariant-loop-x : goal.invariant-loop-x
invariant-loop-x g l =
    HoldsMeans g.S.Pixel.form g.T.Pixel.form l.change.from l.change.to Double l.top l.bottom l.x l.row
