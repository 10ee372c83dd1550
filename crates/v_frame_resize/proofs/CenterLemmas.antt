-- The pixels that contain the centers.
use Rattle.std.proofs.Common.{ℕ, ◌≡◌, ◌+◌, ◌*◌, ◌^◌, ◌<◌, ◌≤◌, inl, inr, arith}
use Rattle.std.proofs.Math.Nat.{mul-le-mul_right, mul-le-mul_left}
use Rattle.std.proofs.lemmas.Bool.{cases_lt}
use Rattle.std.proofs.lemmas.Nat.{div-mul-add}
use Rattle.v_frame_resize.specs.Resize.{nearest}
use Rattle.v_frame_resize.specs.Centers.{IsCenter, CanAdvance}
use Rattle.v_frame_resize.specs.declared.center.Center.{Center}

module _ (source target x : ℕ) (center : Center) (is : IsCenter source target x center) where
  -- The nearest pixel is the quotient of the position of the center.
  pub nearest_is : nearest source target x ≡ center.index
  nearest_is = rw (← is.place) (div-mul-add center.index (2 * target) center.rest is.within)

  -- The nearest pixel is a pixel of the source.
  pub center_inside : 0 < source → x < target → center.index < source
  center_inside some inside = elim (cases_lt center.index source) [
    | inl h ↦ h
    | inr beyond ↦
        let high : source ≤ center.index = omega arith in
        let more = mul-le-mul_right (2 * target) high in
        let low : 2 * x + 1 + 1 ≤ 2 * target = omega arith in
        let less = mul-le-mul_right source low in
        absurd (omega (arith, more, less, is.place))
  ]

  pub can_advance : 0 < source → x < target → source < 2 ^ 62 → target < 2 ^ 62 → CanAdvance center
  can_advance some inside small small1 = record {
    index = omega (arith, center_inside some inside);
    step =
        let whole : center.step * 1 ≤ center.step * (2 * target) = mul-le-mul_left center.step (omega arith) in
        omega (arith, whole, is.step);
    within = rw (is.pixel) is.within;
    step_within = rw (is.pixel) is.step_within;
    pixel = rw (is.pixel) (omega arith);
  }
