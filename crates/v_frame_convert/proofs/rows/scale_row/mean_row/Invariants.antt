-- The pixels processed so far are the expected means.
use Rattle.v_frame_convert.specs.ScaledRows.{HoldsMeans}
use Rattle.v_frame_convert.specs.declared.scale.Scale.TheVariants.{Same}
use Rattle.v_frame_convert.proofs.rows.scale_row.mean_row.Given as goal

abbrev pub invariant-loop-x : goal.invariant-loop-x
invariant-loop-x g l =
    HoldsMeans g.S.Pixel.form g.T.Pixel.form l.change.from l.change.to Same l.top l.bottom l.x l.row
