-- Eight pixels, and eight more.
use Rattle.std.proofs.Common.{◌∙◌, sym, refl, arith}
use Rattle.std.proofs.lemmas.Simd.{length-put_chunk}
use Rattle.std.proofs.lemmas.List.{take_rest, take_all}
use Rattle.std.specs.Simd.Lanes.{put_chunk}
use Rattle.v_frame_raster.proofs.Decoding.{two_byte_pixels-eight_more}
use Rattle.v_frame_raster.proofs.pixel.decode_sixteen.Goals as goal

pub returns : goal.returns
returns c =
    let src = c.args.src.now in let dst = c.args.dst.now in
    let first = two_byte_pixels-eight_more dst src _ 0 (omega arith) c.eight_pixels.ensures refl in
    let long = length-put_chunk 0 dst c.eight_pixels.result in
    let upper = rw (take_rest src 16) at c.eight_pixels-2.ensures in
    let both = two_byte_pixels-eight_more (put_chunk 0 dst c.eight_pixels.result) src c.eight_pixels-2.result 8 (omega (arith, long)) upper first in
    let whole = length-put_chunk 8 (put_chunk 0 dst c.eight_pixels.result) c.eight_pixels-2.result in
    sym (take_all 16 _ (omega (arith, long, whole))) ∙ both
