-- The loop step tests one more value. After the last step, all values are tested.
use Rattle.std.proofs.Common.{◌≡◌, ◌<◌, inl, inr, ap, sym, arith, get_or, ◌∙◌, rules}
use Rattle.std.proofs.lemmas.Bool.{cases_lt}
use Rattle.std.proofs.lemmas.Bool.Decides.{nat_tests}
use Rattle.std.proofs.lemmas.List.{get_or_default}
use Rattle.v_frame_statistics.proofs.row_sums.have_small_values.Goals as goal

pub loop-x-preserved : goal.loop-x-preserved
loop-x-preserved g c =
    let value = g.T.Pixel.form.value in
    let block = c.args.block.now in let x = c.loop-x.x in let pixel = c.index-block-x.result in
    let read : value (get_or block x pixel) ≡ c.into_u16.result =
    sym (c.into_u16.ensures.value ∙ ap value c.index-block-x.is) in
    record {
      bound = λ k d h.
          elim (cases_lt k x) [
            | inl below ↦ grind (arith, nat_tests, c.max-greatest.ensures, c.loop-x.invariant.bound k d below)
            | inr last ↦
                let same : k ≡ x = omega (arith, h) in
                let there = get_or_default block x d pixel c.loop-x-test.true in
                rw (same, there, read) (grind (arith, nat_tests, c.max-greatest.ensures))
          ];
      least = λ m each.
          let before = c.loop-x.invariant.least m (λ k d h. each k d (omega arith)) in
          let last = rw read at (each x pixel (omega arith)) in
          grind (arith, nat_tests, c.max-greatest.ensures, before, last);
    }

pub returns : goal.returns
returns g c = (
  λ small k d h.
      let most = c.loop-x.invariant.bound k d (omega arith) in
      let below : c.loop-x.greatest < 1024 = grind (arith, nat_tests, small) in
      omega (arith, most, below),
  λ all.
      let most = c.loop-x.invariant.least 1023 (λ k d h. omega (arith, all k d (omega arith))) in
      let below : c.loop-x.greatest < 1024 = omega (arith, most) in
      search (rules, nat_tests, below),
)
