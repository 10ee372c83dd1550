-- A byte has eight bits, and a pixel has one byte or two.
use Rattle.std.proofs.Common.{ℕ, ◌≡◌, ◌*◌, ◌^◌, ◌<◌, ◌≤◌, inl, inr, arith}
use Rattle.std.proofs.Math.Nat.{pow-le-pow_right}
use Rattle.std.proofs.lemmas.Bool.{cases_lt}
use Rattle.v_frame_raster.proofs.laws.depths_fit.Goals as goal

-- For one byte, and for two.
of_bytes : (bytes depth : ℕ) → 0 < bytes → bytes < 3 → depth ≤ 8 * bytes → 2 ^ depth ≤ 256 ^ bytes
of_bytes bytes depth some few fits =
    elim (cases_lt bytes 2) [
      | inl one ↦
          let e : bytes ≡ 1 = omega arith in
          let bits : 2 ^ depth ≤ 2 ^ 8 = pow-le-pow_right (omega arith) (rw e at fits) in
          rw e bits
      | inr two ↦
          let e : bytes ≡ 2 = omega arith in
          let bits : 2 ^ depth ≤ 2 ^ 16 = pow-le-pow_right (omega arith) (rw e at fits) in
          rw e bits
    ]

pub returns : goal.returns
returns g c = λ depth fits.
    of_bytes g.T.Pixel.BYTES depth
    (rw g.met.T.Pixel.bytes_of_form g.met.T.Pixel.byte_or_two.0)
    (rw g.met.T.Pixel.bytes_of_form g.met.T.Pixel.byte_or_two.1) fits
