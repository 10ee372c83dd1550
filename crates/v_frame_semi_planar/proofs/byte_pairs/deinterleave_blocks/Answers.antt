-- Sixteen more pixels of each row, until all are copied.
use Rattle.std.proofs.Common.{◌≡◌, ◌+◌, ◌-◌, ◌*◌, ◌/◌, ◌≤◌, length, take, drop, refl, sym, ◌∙◌, ap, arith}
use Rattle.std.proofs.Common.{length-take-le, length-drop}
use Rattle.std.proofs.lemmas.List.{take_all}
use Rattle.v_frame_semi_planar.specs.SemiPlanar.{shown_pixels}
use Rattle.v_frame_semi_planar.proofs.BytePairs.{values_come_back}
use Rattle.v_frame_semi_planar.proofs.Interleaving.{block_apart}
use Rattle.v_frame_semi_planar.proofs.byte_pairs.deinterleave_blocks.Goals as goal

pub loop-block-preserved : goal.loop-block-preserved
loop-block-preserved g c =
    let form = g.T.Pixel.form in let k = c.loop-block.block in let at = 16 * k in let row = c.args.row.now in
    let us = c.loop-block.first in let vs = c.loop-block.second in
    let room : at + 16 ≤ length us = omega (arith, c.loop-block.auto.first) in
    let room_second : at + 16 ≤ length vs = omega (arith, c.loop-block.auto.second, c.requires.equal, room) in
    let byte : form.size ≡ 1 = sym g.met.T.Pixel.bytes_of_form ∙ c.requires.byte (omega (arith, room, c.loop-block.auto.first)) in
    let cut : at + 16 - at ≡ 16 = omega arith in
    let cut_row : 2 * at + 32 - 2 * at ≡ 32 = omega arith in
    let part = length-take-le 16 (drop at us) (omega (arith, length-drop at us, room)) in
    let part_second = length-take-le 16 (drop at vs) (omega (arith, length-drop at vs, room_second)) in
    let long = rw (cut, part) at c.decode_block.auto.first in
    let long_second = rw (cut, part_second) at c.decode_block.auto.second in
    let piece = take 32 (drop (2 * at) row) in
    let count : length piece ≡ 32 = length-take-le 32 (drop (2 * at) row)
    (omega (arith, length-drop (2 * at) row, c.requires.long, room, c.loop-block.auto.first)) in
    let values = rw cut_row at c.write_values.ensures in
    let back = rw count at (values_come_back form byte g.met.T.Pixel.pixel_of_value piece) in
    let is = sym (c.decode_block.ensures ∙ ap (shown_pixels form 0 32) values ∙ back) in
    rw cut (block_apart 16 k row us vs _ _ room room_second long long_second is c.loop-block.invariant)

pub returns : goal.returns
returns g c =
    let us = c.loop-block.first in let vs = c.loop-block.second in let at = 16 * c.loop-block.block in
    let done : length us ≤ at = omega (arith, c.loop-block.auto.first, c.requires.whole) in
    rw (
      take_all at us done,
      take_all at vs (omega (arith, done, c.loop-block.auto.first, c.loop-block.auto.second, c.requires.equal)),
      take_all (2 * at) c.args.row.now (omega (arith, done, c.loop-block.auto.first, c.requires.long)),
    ) at c.loop-block.invariant
