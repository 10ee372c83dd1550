-- The shares of the first and the last row are added, and the rows between them in full.
use Rattle.std.proofs.Common.{ℕ, ◌≡◌, ◌+◌, ◌-◌, ◌*◌, ◌^◌, ◌<◌, ◌≤◌, List, Some, get_or, slice_get}
use Rattle.std.proofs.Common.{ap, sym, ◌∙◌, refl, arith}
use Rattle.std.proofs.Math.Nat.{mul-le-mul_left, mul-le-mul_right}
use Rattle.std.proofs.lemmas.Option.{get_or_from_slice_get}
use Rattle.v_frame.specs.Prelude.{PixelForm, Table}
use Rattle.v_frame_resize.specs.Resize.{row_sum}
use Rattle.v_frame_resize.proofs.Sums.{head_added, inner_added, tail_added, whole_added, sum_within, area_fits}
use Rattle.v_frame_resize.proofs.rows.area.sum_of_area.Goals as goal

-- A row has at most as many pixels as its picture.
narrow : {pixels width height : ℕ} → pixels ≡ width → 0 < height → width * height ≤ 2 ^ 48 → pixels ≤ 2 ^ 48
narrow {pixels} {width} {height} is some few =
    let high : 1 ≤ height = omega (arith, some) in omega (arith, is, few, mul-le-mul_left width high)

-- The row that is read is the row at this index.
module _ {T : Type 0} (form : PixelForm T) (width x : ℕ) where
  counted : {sum : ℕ} {row : List T} (source : Table T) (j : ℕ) → slice_get source j ≡ Some row
      → sum ≡ row_sum form width x row → sum ≡ row_sum form width x (get_or source j row)
  counted {sum} {row} source j here is =
      is ∙ ap (row_sum form width x) (sym (get_or_from_slice_get source j row row here))

pub sum_of_row-requires-clause-small : goal.sum_of_row-requires-clause-small
sum_of_row-requires-clause-small g c = λ κs within.
    narrow c.visible_row.ensures.wide (omega arith) c.requires.countable.area

pub sum_of_row-inner-requires-clause-small : goal.sum_of_row-inner-requires-clause-small
sum_of_row-inner-requires-clause-small g c = λ κs within.
    narrow c.visible_row-in-loop-j.ensures.wide (omega arith) c.requires.countable.area

pub sum_of_row-requires-2-clause-small : goal.sum_of_row-requires-2-clause-small
sum_of_row-requires-2-clause-small g c = λ κs within.
    narrow c.visible_row-2.ensures.wide (omega arith) c.requires.countable.area

pub overflow_mul-head : goal.overflow_mul-head
overflow_mul-head g c =
    let count = row_sum g.T.Pixel.form c.args.size.0 c.args.place.0 in let row = c.visible_row.ensures in
    let head = head_added {count = count} c.requires.down refl c.visible_row.result.now
    (counted g.T.Pixel.form c.args.size.0 c.args.place.0 c.args.source.now c.args.down.first
    row.value c.sum_of_row.ensures.value)
    (rw row.wide at c.sum_of_row.ensures.bound) in
    let within = sum_within head in
    omega (arith, area_fits _ _ g.met.T.Pixel.byte_or_two g.met.T.Pixel.bytes_of_form c.requires.countable.area within)

pub returns-then-last-down-clause-value : goal.returns-then-last-down-clause-value
returns-then-last-down-clause-value g c =
    let count = row_sum g.T.Pixel.form c.args.size.0 c.args.place.0 in let row = c.visible_row.ensures in
    let head = head_added {count = count} c.requires.down refl c.visible_row.result.now
    (counted g.T.Pixel.form c.args.size.0 c.args.place.0 c.args.source.now c.args.down.first
    row.value c.sum_of_row.ensures.value)
    (rw row.wide at c.sum_of_row.ensures.bound) in
    whole_added c.requires.down refl (omega (arith, c.requires.down.order)) head

pub returns-then-last-down-clause-bound : goal.returns-then-last-down-clause-bound
returns-then-last-down-clause-bound g c =
    let count = row_sum g.T.Pixel.form c.args.size.0 c.args.place.0 in let row = c.visible_row.ensures in
    let head = head_added {count = count} c.requires.down refl c.visible_row.result.now
    (counted g.T.Pixel.form c.args.size.0 c.args.place.0 c.args.source.now c.args.down.first
    row.value c.sum_of_row.ensures.value)
    (rw row.wide at c.sum_of_row.ensures.bound) in
    omega (arith, sum_within head)

pub loop-j-init : goal.loop-j-init
loop-j-init g c =
    let none : c.args.down.head * c.sum_of_row.result + c.args.size.1 * 0 ≡ c.args.down.head * c.sum_of_row.result =
    omega arith in
    rw none (head_added c.requires.down refl c.visible_row.result.now
    (counted g.T.Pixel.form c.args.size.0 c.args.place.0 c.args.source.now c.args.down.first
    c.visible_row.ensures.value c.sum_of_row.ensures.value)
    (rw c.visible_row.ensures.wide at c.sum_of_row.ensures.bound))

pub loop-j-preserved : goal.loop-j-preserved
loop-j-preserved g c =
    let row = c.visible_row-in-loop-j.ensures in
    inner_added c.requires.down refl _ _ c.visible_row-in-loop-j.result.now (omega arith) (omega arith)
    (counted g.T.Pixel.form c.args.size.0 c.args.place.0 c.args.source.now c.loop-j.j row.value
    c.sum_of_row-inner.ensures.value)
    (rw row.wide at c.sum_of_row-inner.ensures.bound) c.loop-j.invariant

pub overflow_add-inner : goal.overflow_add-inner
overflow_add-inner g c =
    let row = c.visible_row-in-loop-j.ensures in
    let next = inner_added c.requires.down refl _ _ c.visible_row-in-loop-j.result.now (omega arith) (omega arith)
    (counted g.T.Pixel.form c.args.size.0 c.args.place.0 c.args.source.now c.loop-j.j row.value
    c.sum_of_row-inner.ensures.value)
    (rw row.wide at c.sum_of_row-inner.ensures.bound) c.loop-j.invariant in
    let fits = area_fits _ _ g.met.T.Pixel.byte_or_two g.met.T.Pixel.bytes_of_form c.requires.countable.area
    (sum_within next) in
    let some : 1 ≤ c.args.size.1 = omega (arith, c.requires.down.first.before, c.requires.down.first.begins) in
    omega (arith, fits, mul-le-mul_right (c.loop-j.inner + c.sum_of_row-inner.result) some)

pub overflow_mul-tail : goal.overflow_mul-tail
overflow_mul-tail g c =
    let row = c.visible_row-2.ensures in
    let whole = tail_added c.requires.down refl c.visible_row-2.result.now (omega arith)
    (counted g.T.Pixel.form c.args.size.0 c.args.place.0 c.args.source.now (c.args.down.stop - 1)
    row.value c.sum_of_row-2.ensures.value)
    (rw row.wide at c.sum_of_row-2.ensures.bound) c.loop-j.invariant in
    let within = sum_within whole in
    omega (arith, area_fits _ _ g.met.T.Pixel.byte_or_two g.met.T.Pixel.bytes_of_form c.requires.countable.area within)

pub overflow_mul-result : goal.overflow_mul-result
overflow_mul-result g c =
    omega (
      arith,
      area_fits _ _ g.met.T.Pixel.byte_or_two g.met.T.Pixel.bytes_of_form c.requires.countable.area
          (sum_within c.loop-j.invariant),
    )

pub overflow_add-result : goal.overflow_add-result
overflow_add-result g c =
    omega (
      arith,
      area_fits _ _ g.met.T.Pixel.byte_or_two g.met.T.Pixel.bytes_of_form c.requires.countable.area
          (sum_within c.loop-j.invariant),
    )

pub overflow_add-result-2 : goal.overflow_add-result-2
overflow_add-result-2 g c =
    let row = c.visible_row-2.ensures in
    let whole = tail_added c.requires.down refl c.visible_row-2.result.now (omega arith)
    (counted g.T.Pixel.form c.args.size.0 c.args.place.0 c.args.source.now (c.args.down.stop - 1)
    row.value c.sum_of_row-2.ensures.value)
    (rw row.wide at c.sum_of_row-2.ensures.bound) c.loop-j.invariant in
    let within = sum_within whole in
    omega (arith, area_fits _ _ g.met.T.Pixel.byte_or_two g.met.T.Pixel.bytes_of_form c.requires.countable.area within)

pub returns-clause-value : goal.returns-clause-value
returns-clause-value g c =
    let row = c.visible_row-2.ensures in
    let whole = tail_added c.requires.down refl c.visible_row-2.result.now (omega arith)
    (counted g.T.Pixel.form c.args.size.0 c.args.place.0 c.args.source.now (c.args.down.stop - 1)
    row.value c.sum_of_row-2.ensures.value)
    (rw row.wide at c.sum_of_row-2.ensures.bound) c.loop-j.invariant in
    whole_added c.requires.down refl refl whole

pub returns-clause-bound : goal.returns-clause-bound
returns-clause-bound g c =
    let row = c.visible_row-2.ensures in
    let whole = tail_added c.requires.down refl c.visible_row-2.result.now (omega arith)
    (counted g.T.Pixel.form c.args.size.0 c.args.place.0 c.args.source.now (c.args.down.stop - 1)
    row.value c.sum_of_row-2.ensures.value)
    (rw row.wide at c.sum_of_row-2.ensures.bound) c.loop-j.invariant in
    omega (arith, sum_within whole)
