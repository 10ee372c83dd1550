-- One lane of the similarities: nothing overflows 32 bits.
use Rattle.std.proofs.Common.{ℕ, ◌≡◌, ◌+◌, ◌*◌, ◌^◌, ◌%◌, ◌<◌, ◌≤◌, refl, ◌∙◌, arith, bit_and}
use Rattle.std.specs.Float.Ieee.{binary32, mul, div}
use Rattle.std.proofs.Math.Nat.{mul-le-mul, mod-eq_of_lt}
use lib.Bits.{and_mask}
use Rattle.v_frame_measures.specs.declared.similarity.sums.PixelSums.{PixelSums}
use Rattle.v_frame_measures.specs.declared.similarity.window.SsimConstants.{SsimConstants}
use Rattle.v_frame_measures.specs.BlockSums.{AreSumsOfBytes}
use Rattle.v_frame_measures.specs.Ssim.{similarity_of}
use Rattle.v_frame_measures.proofs.SignedLanes.{single, signed}

abbrev pub plus : ℕ → ℕ → ℕ
plus x y = (x + y) % 2 ^ 32

abbrev pub times : ℕ → ℕ → ℕ
times x y = (x * y) % 2 ^ 32

abbrev pub shifted : ℕ → ℕ → ℕ
shifted x k = (x * 2 ^ k) % 2 ^ 32

masked : (n : ℕ) → n ≤ 16320 → bit_and n 32767 ≡ n
masked n h = and_mask n 15 ∙ mod-eq_of_lt (omega arith)

pub lane_is : (constants : SsimConstants) → constants.means < 536870912 → constants.variances < 536870912
    → (w : PixelSums) → AreSumsOfBytes w
    → (let a = bit_and w.first 32767 in let b = bit_and w.second 32767 in
    let product = shifted (times a b) 1 in let both = plus (times a a) (times b b) in
    div binary32
    (mul binary32 (single (plus product constants.means)) (signed (plus (shifted w.products 7) constants.variances) product))
    (mul binary32 (single (plus both constants.means)) (signed (plus (shifted w.squares 6) constants.variances) both)))
    ≡ similarity_of constants w
lane_is constants h h1 w few =
    let f = w.first in let s = w.second in
    let most : f * s ≤ 266342400 = mul-le-mul few.first few.second in
    let most1 : f * f ≤ 266342400 = mul-le-mul few.first few.first in
    let most2 : s * s ≤ 266342400 = mul-le-mul few.second few.second in
    let once : times f s ≡ f * s = mod-eq_of_lt (omega (arith, most)) in
    let twice : shifted (f * s) 1 ≡ 2 * (f * s) = mod-eq_of_lt (omega (arith, most)) ∙ omega arith in
    let square : times f f ≡ f * f = mod-eq_of_lt (omega (arith, most1)) in
    let square1 : times s s ≡ s * s = mod-eq_of_lt (omega (arith, most2)) in
    let both : plus (f * f) (s * s) ≡ f * f + s * s = mod-eq_of_lt (omega (arith, most1, most2)) in
    let of_means : plus (2 * (f * s)) constants.means ≡ 2 * (f * s) + constants.means = mod-eq_of_lt (omega (arith, most)) in
    let of_squares : plus (f * f + s * s) constants.means ≡ f * f + s * s + constants.means =
    mod-eq_of_lt (omega (arith, most1, most2)) in
    let products : shifted w.products 7 ≡ 128 * w.products = mod-eq_of_lt (omega (arith, few.products)) ∙ omega arith in
    let squares : shifted w.squares 6 ≡ 64 * w.squares = mod-eq_of_lt (omega (arith, few.squares)) ∙ omega arith in
    let sum : plus (128 * w.products) constants.variances ≡ 128 * w.products + constants.variances =
    mod-eq_of_lt (omega (arith, few.products)) in
    let sum1 : plus (64 * w.squares) constants.variances ≡ 64 * w.squares + constants.variances =
    mod-eq_of_lt (omega (arith, few.squares)) in
    rw (masked f few.first, masked s few.second, once, twice, square, square1, both, of_means, of_squares, products, squares, sum, sum1) refl
