-- The bits of zero, one and ten, and infinity with the opposite sign.
use Rattle.std.proofs.Common.{◌≡◌, refl, true, false}
use Rattle.std.specs.Prelude.{pos}
use Rattle.std.specs.Float.{float_one, float_zero}
use Rattle.std.specs.Float.Ieee.{binary64, inf, neg, of_bits, of_int}

pub zero : of_bits binary64 0 ≡ float_zero
unfolding of_bits
zero = refl

pub neg-inf : neg (inf false) ≡ inf true
unfolding neg
neg-inf = refl

pub ten : of_bits binary64 0x4024_0000_0000_0000 ≡ of_int binary64 (pos 10)
unfolding of_bits of_int
ten = refl

pub one : of_bits binary64 0x3ff0_0000_0000_0000 ≡ float_one
unfolding of_bits
one = refl

pub below_all : of_bits binary64 0xfff0_0000_0000_0000 ≡ inf true
unfolding of_bits
below_all = refl
