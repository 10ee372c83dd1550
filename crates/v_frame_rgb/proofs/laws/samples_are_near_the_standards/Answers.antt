-- The proof treats each matrix separately.
use Rattle.v_frame_rgb.proofs.SampleDistances.{luma_near, chroma_u_near, chroma_v_near}
use Rattle.v_frame_rgb.proofs.laws.samples_are_near_the_standards.Goals as goal

pub returns-clause-luma : goal.returns-clause-luma
returns-clause-luma c = luma_near

pub returns-clause-chroma_u : goal.returns-clause-chroma_u
returns-clause-chroma_u c = chroma_u_near

pub returns-clause-chroma_v : goal.returns-clause-chroma_v
returns-clause-chroma_v c = chroma_v_near
