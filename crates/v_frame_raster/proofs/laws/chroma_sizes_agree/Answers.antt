use Rattle.v_frame_raster.proofs.ChromaLemmas.{has_chroma_size}
use Rattle.v_frame_raster.proofs.laws.chroma_sizes_agree.Goals as goal

pub returns : goal.returns
returns c = has_chroma_size
