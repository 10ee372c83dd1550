-- Two more pixels are interleaved.
use Rattle.std.proofs.Common.{◌∙◌, arith}
use Rattle.v_frame_semi_planar.proofs.Interleaving.{by_turns}
use Rattle.v_frame_semi_planar.proofs.rows.chroma.interleave_pixels.Goals as goal

pub returns : goal.returns
returns g c =
    let all = c.loop-x.invariant in
    by_turns c.args.first.now c.args.second.now c.loop-x.row (c.loop-x.auto.row ∙ c.requires.long) c.requires.equal
    (record { first = λ k h. all.first k (omega arith); second = λ k h. all.second k (omega arith) })
