-- One more run follows the encoded ones.
use Rattle.std.proofs.Common.{◌≡◌, ◌+◌, ◌-◌, ◌*◌, ◌++◌, length, take, ◌∙◌, append_assoc, rules, arith}
use Rattle.std.proofs.lemmas.Grind.{common_steps}
use Rattle.v_frame_planar.specs.Pending.{pixels_behind}
use Rattle.v_frame_planar.proofs.Blocks.{bytes-append}
use Rattle.std.proofs.lemmas.Slice.{take-put_mid}
use Rattle.v_frame_planar.proofs.pending.Pending.fill.Goals as goal

pub loop-block-preserved : goal.loop-block-preserved
loop-block-preserved g c =
    let form = g.T.Pixel.form in
    let block = c.loop-block.block in
    let filled = c.loop-block.filled in
    let before = c.loop-block.invariant in
    let begun = c.begin_row.new.self in
    let first = c.split_at.result.0.now in
    let rest = c.split_at.result.1.now in
    let part = c.encode_row.new.bytes in
    let long = c.BYTES-in-loop-block-2.result * length first in
    let size : length part ≡ long = search rules in
    let cut : begun.row.now ≡ first ++ rest = search rules in
    let behind = pixels_behind begun in
    let joined = take-put_mid filled (filled + long - filled) block part (filled + long) (omega (arith, size))
    before.within in
    record {
      within = search rules;
      bytes = before.bytes ∙ rw (joined, ← c.begin_row.ensures.pixels, cut, append_assoc first rest behind)
          (rw (
            bytes-append form first (rest ++ behind),
            ← c.encode_row.ensures,
            append_assoc (take filled block) part
                _,
          ));
    }

pub overflow_mul-end : goal.overflow_mul-end
overflow_mul-end g c = grind (arith, common_steps)

pub overflow_add-end : goal.overflow_add-end
overflow_add-end g c = grind (arith, common_steps)

pub slice_bounds-encode_row-end : goal.slice_bounds-encode_row-end
slice_bounds-encode_row-end g c = grind (arith, common_steps)

pub encode_row-requires-after_bounds : goal.encode_row-requires-after_bounds
encode_row-requires-after_bounds g c = grind (arith, common_steps)

pub loop-block-smaller : goal.loop-block-smaller
loop-block-smaller g c = grind (arith, common_steps)
