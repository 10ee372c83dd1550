-- Both chroma planes are tested.
use Rattle.v_frame_convert.proofs.frame.have_all_chroma_sizes.Goals as goal

pub returns-then-have_chroma_sizes : goal.returns-then-have_chroma_sizes
returns-then-have_chroma_sizes g c = (
  (λ is. (c.have_chroma_sizes.ensures.0 c.if-have_chroma_sizes.true, c.have_chroma_sizes-then-have_chroma_sizes.ensures.0 is)),
  (λ both. c.have_chroma_sizes-then-have_chroma_sizes.ensures.1 both.1),
)
