-- Both tests succeed, or the first failing test shows that the frames do not fit.
use Rattle.v_frame_convert.proofs.frame.frames_fit.Goals as goal

pub returns-then-planes_fit : goal.returns-then-planes_fit
returns-then-planes_fit g c = (
  (λ is. (c.planes_fit.ensures.0 c.if-planes_fit.true, c.have_all_chroma_sizes.ensures.0 is)),
  (λ both. c.have_all_chroma_sizes.ensures.1 both.1),
)
