-- The bytes of the first pixels are at the front.
use Rattle.std.proofs.Common.{◌≡◌, ◌*◌, take}
use Rattle.v_frame_raster.specs.Pixel.{bytes_of_pixels}
use Rattle.v_frame_raster.proofs.pixel.encode_row.Given as goal

abbrev pub invariant-loop-i : goal.invariant-loop-i
invariant-loop-i g l = take (g.T.Pixel.BYTES * l.i) l.bytes ≡ bytes_of_pixels g.T.Pixel.form (take l.i l.row)
