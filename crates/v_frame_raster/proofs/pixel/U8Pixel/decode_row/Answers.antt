-- Pixels of one byte are their bytes.
use Rattle.std.proofs.Common.{sym, ◌∙◌, length, arith, ◌≡◌}
use Rattle.v_frame_raster.proofs.Decoding.{one_byte_pixels}
use Rattle.v_frame_raster.proofs.pixel.U8Pixel.decode_row.Goals as goal

pub returns : goal.returns
returns c =
    let same : length c.args.src.now ≡ length c.args.dst.now = omega (arith, c.requires) in
    c.copy_from_slice.ensures.after ∙ sym (rw same at (one_byte_pixels c.args.src.now))
