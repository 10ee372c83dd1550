-- The loop step writes the pixels at two centers. If the number of pixels is odd, the last one is written after the
-- loop.
use Rattle.std.proofs.Common.{◌≡◌, ◌+◌, ◌*◌, ◌/◌, length, slice_get, arith}
use Rattle.v_frame_resize.specs.Resize.{nearest}
use Rattle.v_frame_resize.proofs.PartLemmas.{next_place, next_fits, place_inside, center_is}
use Rattle.v_frame_resize.proofs.RowWritten.{one_written, two_written}
use Rattle.v_frame_resize.proofs.rows.nearest.nearest_by_parts.Goals as goal

pub overflow_add-next : goal.overflow_add-next
overflow_add-next g c = omega (arith, next_fits c.loop-pair.invariant.place (omega arith))

pub pixel_at_place-first-requires : goal.pixel_at_place-first-requires
pixel_at_place-first-requires g c = place_inside c.loop-pair.invariant.place (omega arith) c.requires.row_some

pub pixel_at_place-second-requires : goal.pixel_at_place-second-requires
pixel_at_place-second-requires g c =
    place_inside (next_place c.loop-pair.invariant.place) (omega arith) c.requires.row_some

pub overflow_add-place : goal.overflow_add-place
overflow_add-place g c = omega (arith, next_fits (next_place c.loop-pair.invariant.place) (omega arith))

pub pixel_at_place-requires : goal.pixel_at_place-requires
pixel_at_place-requires g c = place_inside c.loop-pair.invariant.place (omega arith) c.requires.row_some

pub loop-pair-preserved : goal.loop-pair-preserved
loop-pair-preserved g c =
    let row = c.args.row.now in let out = c.loop-pair.out in let x = 2 * c.loop-pair.pair in
    let place = c.loop-pair.invariant.place in let next = next_place place in
    let more : 2 * (c.loop-pair.pair + 1) ≡ x + 1 + 1 = omega arith in
    rw more (record {
      place = next_place next;
      pixels =
          two_written (λ k. slice_get row (nearest (length row) (length c.args.out.now) k)) out x _ _
          c.loop-pair.invariant.pixels (omega arith)
          (rw (center_is place (omega arith)) at c.pixel_at_place-first.ensures)
          (rw (center_is next (omega arith)) at c.pixel_at_place-second.ensures);
    })

pub returns-then-last-out : goal.returns-then-last-out
returns-then-last-out g c =
    let row = c.args.row.now in let target = length c.args.out.now in
    let last : 2 * c.loop-pair.pair ≡ 2 * (target / 2) = omega arith in
    let place = rw last at c.loop-pair.invariant.place in λ x h.
    one_written (λ k. slice_get row (nearest (length row) target k)) c.loop-pair.out (2 * (target / 2)) _
    (λ k before. c.loop-pair.invariant.pixels k (omega arith)) (omega arith)
    (rw (center_is place (omega arith)) at c.pixel_at_place.ensures) x (omega arith)
