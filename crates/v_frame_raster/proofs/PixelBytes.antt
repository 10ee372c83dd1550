-- A value is the sum of its bytes, each times its weight.
use Rattle.std.proofs.Common.{ℕ, zero, suc, ◌≡◌, ◌+◌, ◌*◌, ◌/◌, ◌%◌, ◌^◌, ◌<◌, length, refl, ap, arith, add-one}
use Rattle.std.proofs.Common.{add-zero, zero-add}
use Rattle.std.proofs.Math.Nat.{pow-suc, div-div-eq-div-mul, div-eq_of_lt}
use Rattle.v_frame_raster.specs.Pixel.{bytes_from, bytes_of, value_from, value_of_bytes}

pub length-bytes_from : (i n value : ℕ) → length (bytes_from i n value) ≡ n
length-bytes_from i zero value = refl
length-bytes_from i (suc n) value = ap suc (length-bytes_from (i + 1) n value)

-- The weighted sum of n bytes from byte i on is the part of the value between the weights of byte i and byte i + n.
value_from-bytes_from : (i n value : ℕ)
    → value_from i (bytes_from i n value) + 256 ^ (i + n) * (value / 256 ^ (i + n)) ≡ 256 ^ i * (value / 256 ^ i)
value_from-bytes_from i zero value = rw (add-zero i) (omega arith)
value_from-bytes_from i (suc n) value =
    let e : i + suc n ≡ i + 1 + n = omega arith in
    let weight : 256 ^ (i + 1) ≡ 256 ^ i * 256 = rw (add-one i) (pow-suc 256 i) in
    let rest = rw (weight, ← div-div-eq-div-mul value (256 ^ i) 256) at (value_from-bytes_from (i + 1) n value) in
    let split : 256 * (value / 256 ^ i / 256) + value / 256 ^ i % 256 ≡ value / 256 ^ i = omega arith in
    rw e (omega (arith, rest, ap (λ d. 256 ^ i * d) split))

pub value_of_bytes-bytes_of : (n value : ℕ) → value < 256 ^ n → value_of_bytes (bytes_of n value) ≡ value
value_of_bytes-bytes_of n value h =
    let all = rw (zero-add n, div-eq_of_lt h) at (value_from-bytes_from 0 n value) in
    omega (arith, all)
