-- The lanes are the pixels of the first 16 bytes.
use Rattle.std.proofs.Common.{◌<◌}
use Rattle.std.proofs.lemmas.Simd.{Each1-from_get_or}
use Rattle.v_frame_raster.proofs.Decoding.{two_byte_pixels-lanes}
use Rattle.v_frame_raster.proofs.pixel.eight_pixels.Goals as goal

pub returns : goal.returns
returns c =
    two_byte_pixels-lanes 8 c.args.src.now c.requires
    (Each1-from_get_or (λ byte. byte < 256) _ 0 (λ k h. (c.type_inv.src k).fits))
