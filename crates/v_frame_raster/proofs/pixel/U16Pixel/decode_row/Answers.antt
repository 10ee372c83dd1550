-- Sixteen more pixels, and one more pixel.
use Rattle.std.proofs.Common.{◌≡◌, ◌+◌, ◌*◌, ◌-◌, ◌∙◌, arith}
use Rattle.v_frame_raster.proofs.Decoding.{two_byte_pixels-more, two_byte_pixels-sixteen_more}
use Rattle.v_frame_raster.proofs.pixel.U16Pixel.decode_row.Goals as goal

pub loop-block-preserved : goal.loop-block-preserved
loop-block-preserved c =
    let src = c.args.src.now in let at = 16 * c.loop-block.block in let dst = c.loop-block.dst in
    let bytes : 32 * c.loop-block.block ≡ 2 * at = omega arith in
    let next : 16 * (c.loop-block.block + 1) ≡ at + 16 = omega arith in
    let wide : 32 * c.loop-block.block + 32 - 32 * c.loop-block.block ≡ 32 = omega arith in
    let pixels : at + 16 - at ≡ 16 = omega arith in
    let decoded = rw (wide, bytes) at c.decode_sixteen.ensures in
    rw (next, pixels) (two_byte_pixels-sixteen_more dst src _ at (omega (arith, c.loop-block.auto.dst)) decoded c.loop-block.invariant)

pub loop-i-preserved : goal.loop-i-preserved
loop-i-preserved c =
    two_byte_pixels-more c.loop-i.dst c.args.src.now c.loop-i.i _ (omega arith) (omega arith)
    (c.from_le_bytes.ensures ∙ omega arith) c.loop-i.invariant
