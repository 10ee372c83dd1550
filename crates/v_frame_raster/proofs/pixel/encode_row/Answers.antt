-- One more pixel is encoded inside its row.
use Rattle.std.proofs.Common.{◌<◌, arith}
use Rattle.std.proofs.lemmas.Grind.{common_steps}
use Rattle.std.proofs.Math.Nat.{mul-le-mul_left}
use Rattle.v_frame_raster.proofs.pixel.encode_row.Goals as goal

pub overflow_mul-start : goal.overflow_mul-start
overflow_mul-start g c = grind (arith, common_steps)

pub bounds-bytes-start : goal.bounds-bytes-start
bounds-bytes-start g c =
    let some : 0 < g.T.Pixel.form.size = g.met.T.Pixel.byte_or_two.0 in
    let inside = mul-le-mul_left g.T.Pixel.BYTES c.loop-i-test.true in
    rw c.BYTES.ensures (omega (arith, inside, some, g.met.T.Pixel.bytes_of_form, c.loop-i.auto.bytes, c.requires))

pub returns : goal.returns
returns g c = grind (arith, common_steps)
