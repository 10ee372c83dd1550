-- The facts about a blank frame follow from the request, which only luma can make invalid.
use Rattle.std.proofs.Common.{refl}
use Rattle.v_frame.specs.declared.frame.error.FrameError.TheVariants.{OutOfMemory}
use Rattle.v_frame_planar.specs.Video.{video_request}
use Rattle.v_frame_planar.proofs.Requests.{told_of_blank, value_goes_on}
use Rattle.v_frame_planar.proofs.video.video_frame.Goals as goal

pub returns-in-Ok : goal.returns-in-Ok
returns-in-Ok g c =
    let a = c.args in
    let luma = c.in-Ok.ensures.blank in
    let blank = c.with_chroma.ensures.blank (video_request a.width a.height a.subsampling a.bit_depth a.padding) luma
    refl in
    let told = told_of_blank g.T.Pixel.ZERO g.T.Pixel.BYTES a.width a.height a.bit_depth a.padding a.subsampling
    c.with_chroma.result luma.some blank in
    record {
      refused = value_goes_on _ _ OutOfMemory _ _ c.in-Ok.is c.with_chroma.ensures.refused c.luma_frame.ensures.refused;
      blank = blank;
      tables = told.0;
      sizes = told.1;
      as_built = told.2;
    }
