-- The bytes of the visible pixels are at most as many as the bytes of the buffer.
use Rattle.std.proofs.Common.{◌*◌, None, ap, arith}
use Rattle.v_frame_plane.proofs.iterators.BegunPixels.{count_of_bytes, few_bytes}
use Rattle.v_frame_plane.proofs.bytes.ByteData.new.Goals as goal

pub returns-clause-count : goal.returns-clause-count
returns-clause-count g c =
    let form = g.T.Pixel.form in
    omega (arith, count_of_bytes form None c.new.result None, ap (λ n. n * form.size) c.new.ensures.count)

pub returns-clause-bound : goal.returns-clause-bound
returns-clause-bound g c =
    let form = g.T.Pixel.form in
    omega (
      arith,
      count_of_bytes form None c.new.result None,
      few_bytes form c.new.result g.met.T.Pixel.byte_or_two.1
          c.new.ensures.bound,
    )
