-- The powers of two by which numbers are split, as 64-bit words, and negative differences.
use Rattle.std.proofs.Common.{ℕ, suc, ◌≡◌, ◌-◌, ◌<◌, refl, ap, ◌∙◌, arith, false}
use Rattle.std.specs.Prelude.{pos, negsuc, ◌-ℤ◌}
use Rattle.std.proofs.lemmas.Int.{ints}
use Rattle.std.specs.Float.Ieee.{Format, binary32, binary64, fin, neg, of_bits, of_int}
use Rattle.core.proofs.num.Values.{neg-round}

pub two_to_24 : of_bits binary32 0x4b80_0000 ≡ fin false 1 (pos 24)
unfolding of_bits
two_to_24 = refl

pub two_to_53 : of_bits binary64 0x4340_0000_0000_0000 ≡ fin false 1 (pos 53)
unfolding of_bits
two_to_53 = refl

negated : (f : Format) (n : ℕ) → neg (of_int f (pos (suc n))) ≡ of_int f (negsuc n)
unfolding of_int
negated f n = neg-round f (suc n) 1

-- The float of a negative difference is the negated float of its absolute value.
pub negated_difference : (f : Format) (a b : ℕ) → a < b → neg (of_int f (pos (b - a))) ≡ of_int f (pos a -ℤ pos b)
negated_difference f a b h =
    let more = b - a - 1 in
    let is : b - a ≡ suc more = omega arith in
    let less : negsuc more ≡ pos a -ℤ pos b = omega (arith, ints) in
    ap (λ n. neg (of_int f (pos n))) is ∙ negated f more ∙ ap (of_int f) less
