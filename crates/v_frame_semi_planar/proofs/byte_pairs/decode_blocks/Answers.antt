-- Sixteen more pixels of each row, until all are decoded.
use Rattle.std.proofs.Common.{◌≡◌, ◌+◌, ◌-◌, ◌*◌, ◌/◌, ◌≤◌, length, take, drop, refl, sym, ◌∙◌, ap, arith}
use Rattle.std.proofs.Common.{length-take-le, length-drop}
use Rattle.std.proofs.lemmas.List.{take_all}
use Rattle.v_frame_semi_planar.specs.SemiPlanar.{shown_pixels}
use Rattle.v_frame_semi_planar.proofs.BytePairs.{shown_piece}
use Rattle.v_frame_semi_planar.proofs.Interleaving.{block_apart}
use Rattle.v_frame_semi_planar.proofs.Stored.{length-shown}
use Rattle.v_frame_semi_planar.proofs.byte_pairs.decode_blocks.Goals as goal

pub loop-block-preserved : goal.loop-block-preserved
loop-block-preserved g c =
    let form = g.T.Pixel.form in let k = c.loop-block.block in let at = 16 * k in let bytes = c.args.bytes.now in
    let us = c.loop-block.first in let vs = c.loop-block.second in let count = 2 * length c.args.first.now in
    let room : at + 16 ≤ length us = omega (arith, c.loop-block.auto.first) in
    let room_second : at + 16 ≤ length vs = omega (arith, c.loop-block.auto.second, c.requires.equal, room) in
    let byte : form.size ≡ 1 = sym g.met.T.Pixel.bytes_of_form ∙ c.requires.byte (omega (arith, room, c.loop-block.auto.first)) in
    let cut : at + 16 - at ≡ 16 = omega arith in
    let cut_bytes : 2 * at + 32 - 2 * at ≡ 32 = omega arith in
    let part = length-take-le 16 (drop at us) (omega (arith, length-drop at us, room)) in
    let part_second = length-take-le 16 (drop at vs) (omega (arith, length-drop at vs, room_second)) in
    let long = rw (cut, part) at c.decode_block.auto.first in
    let long_second = rw (cut, part_second) at c.decode_block.auto.second in
    let is = shown_piece form byte 0 (2 * at) 32 count bytes (omega (arith, room, c.loop-block.auto.first))
    ∙ sym (rw cut_bytes at c.decode_block.ensures) in
    rw cut (block_apart 16 k (shown_pixels form 0 count bytes) us vs _ _ room room_second long long_second is
    c.loop-block.invariant)

pub returns : goal.returns
returns g c =
    let form = g.T.Pixel.form in let us = c.loop-block.first in let vs = c.loop-block.second in
    let at = 16 * c.loop-block.block in let count = 2 * length c.args.first.now in
    let done : length us ≤ at = omega (arith, c.loop-block.auto.first, c.requires.whole) in
    let items = shown_pixels form 0 count c.args.bytes.now in
    let some = length-shown form 0 count c.args.bytes.now in
    sym (rw (
      take_all at us done,
      take_all at vs (omega (arith, done, c.loop-block.auto.first, c.loop-block.auto.second, c.requires.equal)),
      take_all (2 * at) items (omega (arith, done, c.loop-block.auto.first, some)),
    ) at c.loop-block.invariant)
