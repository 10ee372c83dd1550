-- The bytes of a value determine the value, and the value determines the pixel.
use Rattle.std.proofs.Common.{◌∙◌, ap}
use Rattle.v_frame_raster.specs.Pixel.{value_of_bytes}
use Rattle.v_frame_raster.proofs.PixelBytes.{value_of_bytes-bytes_of}
use Rattle.v_frame_raster.proofs.laws.pixel_of_bytes.Goals as goal

pub returns : goal.returns
returns g c = λ p fits is.
    g.met.T.Pixel.one_value c.from_le.result p (c.from_le.ensures ∙ ap value_of_bytes is ∙
    value_of_bytes-bytes_of g.T.Pixel.BYTES (g.T.Pixel.form.value p) fits)
