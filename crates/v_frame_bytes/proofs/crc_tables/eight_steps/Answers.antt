-- One step fewer is left.
use Rattle.std.proofs.Common.{ℕ, suc, ◌≡◌, ◌+◌, ◌-◌, ◌≤◌, ◌<◌, sym, ap, ◌∙◌, arith}
use Rattle.v_frame_bytes.specs.Crc.{divided, divided_once}
use Rattle.v_frame_bytes.proofs.crc_tables.eight_steps.Goals as goal

one_more : (n rest : ℕ) → n < 8 → divided (8 - (n + 1)) (divided_once rest) ≡ divided (8 - n) rest
unfolding divided
one_more n rest h =
    let e : 8 - n ≡ suc (8 - (n + 1)) = omega arith in
    ap (λ k. divided k rest) (sym e)

none_left : (n rest : ℕ) → 8 ≤ n → divided (8 - n) rest ≡ rest
unfolding divided
none_left n rest h = let e : 8 - n ≡ 0 = omega arith in ap (λ k. divided k rest) e

pub loop-preserved : goal.loop-preserved
loop-preserved c = record {
  within = omega arith;
  same =
      ap (divided (8 - (c.loop.counter + 1))) c.step-left.ensures
      ∙ one_more c.loop.counter c.loop.left (omega arith) ∙ c.loop.invariant.same;
}

pub returns : goal.returns
returns c = sym (none_left c.loop.counter c.loop.left (omega arith)) ∙ c.loop.invariant.same
