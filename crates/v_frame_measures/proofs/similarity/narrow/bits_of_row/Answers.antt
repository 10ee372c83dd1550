-- The loop step: one more value.
use Rattle.std.proofs.Common.{◌≡◌, inl, inr, ap, sym, arith, get_or, ◌∙◌}
use Rattle.std.proofs.lemmas.Bool.{cases_lt}
use Rattle.std.proofs.lemmas.List.{get_or_default}
use Rattle.std.proofs.lemmas.Nat.{le_or_l, le_or_r}
use Rattle.v_frame_measures.proofs.similarity.narrow.bits_of_row.Goals as goal

pub loop-x-init : goal.loop-x-init
loop-x-init g c k d h = absurd (omega (arith, h))

pub loop-x-preserved : goal.loop-x-preserved
loop-x-preserved g c k d h =
    let value = g.T.Pixel.form.value in
    let row = c.args.row.now in let x = c.loop-x.x in let pixel = c.index-row-x.result in
    let bits = c.loop-x.bits in let here = c.into_u16-bits.result in
    let read : value (get_or row x pixel) ≡ here = sym (c.into_u16-bits.ensures.value ∙ ap value c.index-row-x.is) in
    elim (cases_lt k x) [
      | inl below ↦ omega (arith, c.loop-x.invariant k d below, le_or_l bits here)
      | inr last ↦
          let same : k ≡ x = omega (arith, h) in
          let there = get_or_default row x d pixel c.loop-x-test.true in
          rw (same, there, read) (le_or_r bits here)
    ]

pub returns : goal.returns
returns g c k d h = c.loop-x.invariant k d (omega (arith, h))
