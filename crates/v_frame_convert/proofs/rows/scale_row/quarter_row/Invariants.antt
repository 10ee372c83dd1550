-- The pixels processed so far are the expected means.
use Rattle.v_frame_convert.specs.ScaledRows.{HoldsMeans}
use Rattle.v_frame_convert.specs.declared.scale.Scale.TheVariants.{Quarter}
use Rattle.v_frame_convert.proofs.rows.scale_row.quarter_row.Given as goal

abbrev pub invariant-loop-x : goal.invariant-loop-x
invariant-loop-x g l =
    HoldsMeans g.S.Pixel.form g.T.Pixel.form l.change.from l.change.to Quarter l.top l.bottom l.x l.row

abbrev pub invariant-loop-x-2 : goal.invariant-loop-x-2
invariant-loop-x-2 g l =
    HoldsMeans g.S.Pixel.form g.T.Pixel.form l.change.from l.change.to Quarter l.top l.bottom l.x l.row
