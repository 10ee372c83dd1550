-- The row is the two results, interleaved.
use Rattle.std.proofs.Common.{◌*◌, sym, ◌∙◌, ap, arith}
use Rattle.v_frame_semi_planar.proofs.Interleaving.{by_turns}
use Rattle.v_frame_semi_planar.proofs.rows.chroma.deinterleave_pixels.Goals as goal

pub returns : goal.returns
returns g c =
    let all = c.loop-x.invariant in
    let first = c.loop-x.auto.first in
    by_turns c.loop-x.first c.loop-x.second c.args.row.now (c.requires.long ∙ sym (ap (λ n. 2 * n) first))
    (c.loop-x.auto.second ∙ c.requires.equal ∙ sym first)
    (record { first = λ k h. all.first k (omega arith); second = λ k h. all.second k (omega arith) })
