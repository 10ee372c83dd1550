-- The loop step: one more row.
use Rattle.std.proofs.Common.{◌≡◌, ◌∙◌, inl, inr, arith, get_or}
use Rattle.std.proofs.lemmas.Bool.{cases_lt}
use Rattle.std.proofs.lemmas.Nat.{le_or_l, le_or_r}
use Rattle.std.proofs.lemmas.Option.{get_or_from_slice_get, slice_get_within}
use Rattle.std.proofs.lemmas.List.{get_or_default}
use Rattle.v_frame_measures.proofs.similarity.narrow.bits_of_rows.Goals as goal

pub loop-y-init : goal.loop-y-init
loop-y-init g c k d h = absurd (omega (arith, h))

pub loop-y-preserved : goal.loop-y-preserved
loop-y-preserved g c k d h i e within =
    let picture = c.args.picture.now in let y = c.loop-y.y in let row = c.visible_row.result.now in
    let bits = c.loop-y.bits in let here = c.bits_of_row-bits.result in
    elim (cases_lt k y) [
      | inl below ↦ omega (arith, c.loop-y.invariant k d below i e within, le_or_l bits here)
      | inr last ↦
          let same : k ≡ y = omega (arith, h) in
          let there : get_or picture k d ≡ row = rw same (get_or_default picture y d row (slice_get_within picture y row c.visible_row.ensures.value)
          ∙ get_or_from_slice_get picture y row row c.visible_row.ensures.value) in
          rw there (omega (arith, c.bits_of_row-bits.ensures i e (rw there at within), le_or_r bits here))
    ]

pub returns : goal.returns
returns g c k d h = c.loop-y.invariant k d (omega (arith, h, c.height-y-end.ensures.value))
