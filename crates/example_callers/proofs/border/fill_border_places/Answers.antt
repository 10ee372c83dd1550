-- Each part of the border is filled in turn, and the visible entries are skipped.
use Rattle.std.proofs.Common.{ℕ, ◌≡◌, ◌+◌, ◌*◌, ◌<◌, ◌≤◌, refl, arith}
use Rattle.v_frame.specs.Prelude.{Border, stride_of, alloc_height_of, alloc_size_of}
use Rattle.example_callers.proofs.FilledBorders.{nothing_filled, part_filled, marks_of_rows, marks_left, marks_visible}
use Rattle.example_callers.proofs.FilledBorders.{marks_right, row_within, rows_within, within_buffer}
use Rattle.example_callers.proofs.border.fill_border_places.Goals as goal

pub overflow_mul-top : goal.overflow_mul-top
overflow_mul-top g c = rw (c.pad_top-top.ensures, c.stride-stride.ensures) (omega (arith, c.requires.fits, rows_within))

pub fill_part-requires-clause-within : goal.fill_part-requires-clause-within
fill_part-requires-clause-within g c =
    rw (c.requires.whole, c.pad_top-top.ensures, c.stride-stride.ensures) (omega (arith, rows_within))

pub loop-y-init : goal.loop-y-init
loop-y-init g c =
    let k = c.args.geometry in let marks = c.places_have_marks.ensures k in let wide : 0 < stride_of k = omega
    (arith, c.width.ensures.valid.wide) in
    let fill = rw (c.pad_top-top.ensures, c.stride-stride.ensures) at c.fill_part.ensures in
    let above = λ (place : ℕ) (from : 0 ≤ place). marks_of_rows k marks 0 k.pad_top
    (λ row column _. marks.above row column) wide place (omega arith) in
    let end : (k.pad_top + 0) * stride_of k ≡ k.pad_top * stride_of k = omega arith in
    let all = part_filled k c.args.value c.args.buffer.now 0 0 (k.pad_top * stride_of k) _ _
    (λ place low high. absurd (omega arith)) above
    (nothing_filled k c.args.value c.args.buffer.now) fill.before fill.inside fill.behind in
    rw (c.pad_top-top.ensures, c.stride-stride.ensures, end) all

pub overflow_add-start-in-loop-y : goal.overflow_add-start-in-loop-y
overflow_add-start-in-loop-y g c =
    rw (c.pad_top-top.ensures, c.stride-stride.ensures, c.pad_left-left.ensures)
    (omega (arith, c.requires.fits, c.height-y-end.ensures.value, row_within))

pub overflow_mul-start : goal.overflow_mul-start
overflow_mul-start g c =
    rw (c.pad_top-top.ensures, c.stride-stride.ensures)
    (omega (arith, c.requires.fits, c.height-y-end.ensures.value, row_within))

pub fill_part-requires-in-loop-y-clause-within : goal.fill_part-requires-in-loop-y-clause-within
fill_part-requires-in-loop-y-clause-within g c =
    rw (
      c.loop-y.auto.buffer,
      c.fill_part.auto.buffer,
      c.requires.whole,
      c.pad_top-top.ensures,
      c.stride-stride.ensures,
      c.pad_left-left.ensures,
    )
    (omega (arith, c.height-y-end.ensures.value, row_within))

pub overflow_add-start-in-loop-y-2 : goal.overflow_add-start-in-loop-y-2
overflow_add-start-in-loop-y-2 g c =
    rw (c.pad_top-top.ensures, c.stride-stride.ensures, c.pad_left-left.ensures, c.width.ensures.value)
    (omega (arith, c.requires.fits, c.height-y-end.ensures.value, row_within))

pub overflow_add-start-in-loop-y-3 : goal.overflow_add-start-in-loop-y-3
overflow_add-start-in-loop-y-3 g c =
    rw (c.pad_top-top.ensures, c.stride-stride.ensures)
    (omega (arith, c.requires.fits, c.height-y-end.ensures.value, row_within))

pub fill_part-requires-in-loop-y-2-clause-within : goal.fill_part-requires-in-loop-y-2-clause-within
fill_part-requires-in-loop-y-2-clause-within g c =
    rw (
      c.fill_part-in-loop-y.auto.buffer,
      c.loop-y.auto.buffer,
      c.fill_part.auto.buffer,
      c.requires.whole,
      c.pad_top-top.ensures,
      c.stride-stride.ensures,
    )
    (omega (arith, c.height-y-end.ensures.value, row_within))

pub loop-y-preserved : goal.loop-y-preserved
loop-y-preserved g c =
    let k = c.args.geometry in let y = c.loop-y.y in let start : ℕ = (k.pad_top + y) * stride_of k in
    let top = c.pad_top-top.ensures in let stride = c.stride-stride.ensures in let left = c.pad_left-left.ensures in
    let high : y < k.height = omega (arith, c.height-y-end.ensures.value) in let marks = c.places_have_marks.ensures k
    in
    let so_far = rw (top, stride) at c.loop-y.invariant in
    let first = rw (top, stride, left) at c.fill_part-in-loop-y.ensures in
    let second = rw (top, stride, left, c.width.ensures.value) at c.fill_part-in-loop-y-2.ensures in
    let fills = part_filled k c.args.value c.args.buffer.now in
    let to_left = fills start start (start + k.pad_left) _ _ (λ place low high. absurd (omega arith))
    (marks_left k marks y start high refl) so_far
    first.before first.inside first.behind in
    let to_right = fills (start + k.pad_left) (start + (k.pad_left + k.width)) (start + stride_of k) _ _
    (marks_visible k marks y start high refl)
    (marks_right k marks y start high refl) to_left second.before second.inside second.behind in
    let next : (k.pad_top + (y + 1)) * stride_of k ≡ start + stride_of k = omega arith in
    rw (top, stride, next) to_right

pub overflow_mul-top-2 : goal.overflow_mul-top-2
overflow_mul-top-2 g c =
    rw (c.pad_top-top.ensures, c.stride-stride.ensures, c.height.ensures.value)
    (omega (arith, c.requires.fits, rows_within))

pub fill_part-requires-2-clause-order : goal.fill_part-requires-2-clause-order
fill_part-requires-2-clause-order g c =
    rw (
      c.loop-y.auto.buffer,
      c.fill_part.auto.buffer,
      c.requires.whole,
      c.pad_top-top.ensures,
      c.stride-stride.ensures,
      c.height.ensures.value,
    )
    (omega (arith, rows_within))

pub returns : goal.returns
returns g c =
    let k = c.args.geometry in let top = c.pad_top-top.ensures in let stride = c.stride-stride.ensures in
    let wide : 0 < stride_of k = omega (arith, c.width.ensures.valid.wide) in let marks = c.places_have_marks.ensures k
    in
    let end : c.loop-y.y ≡ k.height = omega (arith, c.height-y-end.ensures.value) in
    let so_far = rw (top, stride, end) at c.loop-y.invariant in
    let fill = rw (
      top,
      stride,
      c.height.ensures.value,
      c.loop-y.auto.buffer,
      c.fill_part.auto.buffer,
      c.requires.whole,
    ) at c.fill_part-2.ensures in
    let start : ℕ = (k.pad_top + k.height) * stride_of k in
    let all = part_filled k c.args.value c.args.buffer.now start start (alloc_size_of k) _ _
    (λ place low high. absurd (omega arith))
    (marks_of_rows k marks (k.pad_top + k.height) (alloc_height_of k) marks.below wide) so_far fill.before fill.inside
    fill.behind in
    record { border = λ place h. all.border place (within_buffer k marks place Border h) h; visible = all.visible }
