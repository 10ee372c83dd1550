-- The blend of two values is the sum of the blends of their bytes, and it fits the type of the pixels.
use Rattle.std.proofs.Common.{◌≡◌, ◌+◌, ◌-◌, ◌*◌, ◌/◌, refl, ◌∙◌, ap}
use Rattle.v_frame_ops.proofs.Blends.{blend_by_bytes, blend_within}
use Rattle.v_frame_ops.proofs.rows.compose.blend_pixel.Goals as goal

pub from_value-requires-after_bounds : goal.from_value-requires-after_bounds
from_value-requires-after_bounds g c κs within =
    let p = c.into_u16-p.result in let q = c.into_u16-q.result in let w = c.args.weight in
    rw (c.weighted_sum-high.ensures.value, c.weighted_sum-low.ensures.value, blend_by_bytes p q (256 - w) w)
    (blend_within _ p q w c.into_u16-p.ensures.fits c.into_u16-q.ensures.fits c.requires)

pub returns : goal.returns
returns g c =
    let p = c.into_u16-p.result in let q = c.into_u16-q.result in let w = c.args.weight in
    let value = g.T.Pixel.form.value in
    let is : c.weighted_sum-high.result + (c.weighted_sum-low.result + 128) / 256
    ≡ (value c.args.p * (256 - w) + value c.args.q * w + 128) / 256 =
    rw (
      c.weighted_sum-high.ensures.value,
      c.weighted_sum-low.ensures.value,
      blend_by_bytes p q (256 - w) w,
      c.into_u16-p.ensures.value,
      c.into_u16-q.ensures.value,
    ) refl in
    c.from_value.ensures ∙ ap g.T.Pixel.form.pixel_of is
