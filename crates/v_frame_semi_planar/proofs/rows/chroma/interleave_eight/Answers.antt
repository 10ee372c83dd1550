-- The row is the interleaved array.
use Rattle.std.proofs.Common.{◌∙◌, sym, arith}
use Rattle.std.proofs.lemmas.List.{take_all}
use Rattle.v_frame_semi_planar.proofs.rows.chroma.interleave_eight.Goals as goal

pub returns : goal.returns
returns g c =
    sym (take_all c.loop-x.x c.loop-x.row (omega arith)) ∙ c.loop-x.invariant
    ∙ take_all c.loop-x.x c.interleave_pixels.new.row (omega arith) ∙ c.interleave_pixels.ensures
