-- The source pixel that contains the center of target pixel `x`.
use Rattle.std.specs.Prelude.{ℕ, ◌≡◌, ◌+◌, ◌*◌, ◌^◌, ◌<◌}
use Rattle.v_frame_resize.specs.declared.center.Center.{Center}

pub record IsCenter (source target x : ℕ) (center : Center) : Type 0 where
  pub pixel : center.pixel ≡ 2 * target
  pub step : center.step * (2 * target) + center.step_rest ≡ 2 * source
  pub step_within : center.step_rest < 2 * target
  pub place : center.index * (2 * target) + center.rest ≡ (2 * x + 1) * source
  pub within : center.rest < 2 * target

-- The next center can be computed without overflow.
pub record CanAdvance (center : Center) : Type 0 where
  pub index : center.index < 2 ^ 62
  pub step : center.step < 2 ^ 63
  pub within : center.rest < center.pixel
  pub step_within : center.step_rest < center.pixel
  pub pixel : center.pixel < 2 ^ 63
