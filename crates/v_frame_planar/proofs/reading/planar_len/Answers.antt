-- The bytes of the three planes follow one another.
use Rattle.std.proofs.Common.{arith, length-append}
use Rattle.v_frame_planar.proofs.reading.planar_len.Goals as goal

pub returns : goal.returns
returns g c = simp length-append (omega (
  arith,
  c.byte_len.ensures.bytes,
  c.chroma_len.ensures.value,
  c.chroma_len-2.ensures.value,
  c.saturating_add.ensures,
))
