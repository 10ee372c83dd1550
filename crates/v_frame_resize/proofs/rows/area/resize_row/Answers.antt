-- The loop step writes the mean of one more area.
use Rattle.std.proofs.Common.{ℕ, ◌≡◌, ◌-◌, ◌*◌, ◌^◌, ◌<◌, ◌≤◌, length, Some, slice_get, slice_set}
use Rattle.std.proofs.Common.{ap, ◌∙◌, arith}
use Rattle.std.proofs.Math.Nat.{mul-le-mul}
use Rattle.v_frame_raster.proofs.tables.Lists.{others_are_read, set_is_read}
use Rattle.v_frame_resize.specs.Resize.{area_mean}
use Rattle.v_frame_resize.proofs.Sums.{values_fit, values_some, mean_within}
use Rattle.v_frame_resize.proofs.rows.area.resize_row.Goals as goal
use borrow.Author.Count.{below_more}

pub overflow_add-sum : goal.overflow_add-sum
overflow_add-sum g c =
    let value : 256 ^ g.T.Pixel.BYTES ≤ 65536 =
    rw g.met.T.Pixel.bytes_of_form (values_fit g.T.Pixel.form.size g.met.T.Pixel.byte_or_two.0
    g.met.T.Pixel.byte_or_two.1) in
    let most : 256 ^ g.T.Pixel.BYTES - 1 ≤ 65535 = omega (arith, value) in
    let whole = mul-le-mul most c.requires.countable.area in
    rw (c.width-source_width.ensures.value, c.height-source_height.ensures.value)
    (omega (arith, whole, c.sum_of_area-sum.ensures.bound, c.requires.countable.area))

pub from_value-requires-after_bounds : goal.from_value-requires-after_bounds
from_value-requires-after_bounds g c κs within =
    let columns = c.width-source_width.result in let rows = c.height-source_height.result in
    let bound : c.sum_of_area-sum.result ≤ (256 ^ g.T.Pixel.BYTES - 1) * (columns * rows) =
    rw (c.width-source_width.ensures.value, c.height-source_height.ensures.value) c.sum_of_area-sum.ensures.bound in
    let wide : 1 ≤ columns = omega (arith, c.width-source_width.ensures.positive) in
    let high : 1 ≤ rows = omega (arith, c.height-source_height.ensures.positive) in
    let some : 0 < columns * rows = omega (arith, mul-le-mul wide high) in
    let mean = mean_within c.sum_of_area-sum.result (256 ^ g.T.Pixel.BYTES - 1) (columns * rows) some bound in
    omega (arith, mean, values_some g.T.Pixel.BYTES)

pub overflow_cast-sum : goal.overflow_cast-sum
overflow_cast-sum g c =
    let columns = c.width-source_width.result in let rows = c.height-source_height.result in
    let bound : c.sum_of_area-sum.result ≤ (256 ^ g.T.Pixel.BYTES - 1) * (columns * rows) =
    rw (c.width-source_width.ensures.value, c.height-source_height.ensures.value) c.sum_of_area-sum.ensures.bound in
    let wide : 1 ≤ columns = omega (arith, c.width-source_width.ensures.positive) in
    let high : 1 ≤ rows = omega (arith, c.height-source_height.ensures.positive) in
    let some : 0 < columns * rows = omega (arith, mul-le-mul wide high) in
    let value : 256 ^ g.T.Pixel.BYTES ≤ 65536 =
    rw g.met.T.Pixel.bytes_of_form (values_fit g.T.Pixel.form.size g.met.T.Pixel.byte_or_two.0
    g.met.T.Pixel.byte_or_two.1) in
    let mean = mean_within c.sum_of_area-sum.result (256 ^ g.T.Pixel.BYTES - 1) (columns * rows) some bound in
    omega (arith, mean, value)

pub loop-x-preserved : goal.loop-x-preserved
loop-x-preserved g c =
    let row = c.loop-x.row in let x = c.loop-x.x in let form = g.T.Pixel.form in
    let mean : ℕ → ℕ = λ k. area_mean form c.args.source.now (length c.args.row.now) c.args.height k c.args.y in
    let is : c.from_value.result ≡ form.pixel_of (mean x) =
    rw (
      ← c.sum_of_area-sum.ensures.value,
      ← c.width-source_width.ensures.value,
      ← c.height-source_height.ensures.value,
    ) c.from_value.ensures in
    record {
      first = rw c.width-source_width.ensures.value at c.next_first-first.ensures;
      pixels =
          below_more (λ k. slice_get (slice_set row x c.from_value.result) k ≡ Some (form.pixel_of (mean k))) x
          (λ k h. others_are_read row x k c.from_value.result (λ e. absurd (omega (arith, e)))
          ∙ c.loop-x.invariant.pixels k h)
          (set_is_read row x c.from_value.result (omega arith) ∙ ap Some is);
    }

pub loop-x-init : goal.loop-x-init
loop-x-init g c =
    record {
      first = record { before = omega arith; begins = omega (arith, c.requires.some) };
      pixels = λ k h. absurd (omega arith);
    }

pub returns : goal.returns
returns g c = λ x across. c.loop-x.invariant.pixels x (omega arith)
