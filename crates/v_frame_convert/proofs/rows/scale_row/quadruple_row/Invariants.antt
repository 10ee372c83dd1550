-- The pixels processed so far are the expected means.
use Rattle.std.proofs.Common.{◌*◌}
use Rattle.v_frame_convert.specs.ScaledRows.{HoldsMeans}
use Rattle.v_frame_convert.specs.declared.scale.Scale.TheVariants.{Quadruple}
use Rattle.v_frame_convert.proofs.rows.scale_row.quadruple_row.Given as goal

abbrev pub invariant-loop-i : goal.invariant-loop-i
invariant-loop-i g l =
    HoldsMeans g.S.Pixel.form g.T.Pixel.form l.change.from l.change.to Quadruple l.top l.bottom (4 * l.i) l.row

abbrev pub invariant-loop-x : goal.invariant-loop-x
invariant-loop-x g l =
    HoldsMeans g.S.Pixel.form g.T.Pixel.form l.change.from l.change.to Quadruple l.top l.bottom l.x l.row
