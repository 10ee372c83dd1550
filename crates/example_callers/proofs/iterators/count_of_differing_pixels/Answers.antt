-- If one of the planes has no more pixels, no pair remains.
use Rattle.std.proofs.Common.{◌≡◌, List, [], ◌∷◌, inl, inr, refl, arith}
use Rattle.std.proofs.lemmas.Grind.{common_steps}
use Rattle.std.specs.List.{zip}
use Rattle.example_callers.proofs.iterators.count_of_differing_pixels.Goals as goal

no_second : {A B : Type 0} (xs : List A) → zip {K = A} {X = B} xs [] ≡ []
no_second [] = refl
no_second (x ∷ xs) = refl

pub loop-p-preserved-then-ne : goal.loop-p-preserved-then-ne
loop-p-preserved-then-ne g c = grind (arith, common_steps)

pub loop-p-preserved : goal.loop-p-preserved
loop-p-preserved g c = grind (arith, common_steps)

pub returns : goal.returns
returns g c = elim c.in-None.ensures.steps [
  | inl one ↦ omega (arith, rw one.1.0 at c.loop-p.invariant.so_far)
  | inr other ↦ omega (arith, rw (other.1.0, no_second) at c.loop-p.invariant.so_far)
]
