-- The geometry of chroma follows from that of luma, which is the requested one.
use Rattle.std.proofs.Common.{◌≡◌, ◌∙◌, ap, option_map, sym}
use Rattle.v_frame.specs.Prelude.{filled}
use Rattle.v_frame_planar.specs.Video.{covering_chroma}
use Rattle.v_frame_planar.proofs.video.with_chroma.Goals as goal

pub returns-clause-blank : goal.returns-clause-blank
returns-clause-blank g c = λ request luma same.
    let zero = g.T.Pixel.ZERO in
    let planned : c.chroma_geometry-chroma.result ≡ covering_chroma request =
    rw (c.chroma_geometry-chroma.ensures.value, c.geometry.ensures.value, luma.y_plane, same) in
    let planes = c.in_ok-u_plane.ensures in
    record {
      y_plane = luma.y_plane;
      u_plane = planes.0 ∙ ap (option_map (filled zero)) planned;
      v_plane = planes.1 ∙ ap (option_map (filled zero)) planned;
      subsampling = sym same;
      bit_depth = luma.bit_depth;
    }
