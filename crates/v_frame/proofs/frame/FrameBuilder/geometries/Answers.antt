-- The check shows that luma fits, and chroma is not larger.
use Rattle.std.proofs.Common.{◌∙◌, sym, ap}
use Rattle.std.specs.Result.{result_ok}
use Rattle.v_frame_raster.proofs.ChromaLemmas.{chroma_fits, geometry_of_ok}
use Rattle.v_frame.proofs.frame.FrameBuilder.geometries.Goals as goal

pub returns-clause-fit : goal.returns-clause-fit
returns-clause-fit c =
    let luma = c.in_ok-luma.luma in
    let fits = c.in_ok-checked_alloc_size.ensures.0 in
    let given = ap result_ok (sym c.for_subsampling.ensures) ∙ sym c.ok.ensures.value ∙ c.in_ok-chroma.was in (
      fits,
      λ x here. chroma_fits c.self.inside.subsampling luma x (geometry_of_ok _ c.in_ok-chroma.chroma given ∙ here)
          fits,
    )
