-- Each part is as requested.
use Rattle.std.proofs.Common.{◌∙◌, ap}
use Rattle.std.specs.Option.{option_map}
use Rattle.v_frame_raster.specs.Raster.{filled}
use Rattle.v_frame.specs.Build.{FrameRequest}
use Rattle.v_frame.proofs.frame.FrameBuilder.build.Goals as goal

pub returns-clause-blank : goal.returns-clause-blank
returns-clause-blank g c =
    let found = c.in_ok-bit_depth.ensures in
    let zeros = filled g.T.Pixel.ZERO in
    record {
      y_plane = c.in_ok-new.ensures ∙ ap zeros found.parts.1;
      chroma = found.divides;
      u_plane = c.in_ok-chroma_plane.ensures ∙ ap (option_map zeros) found.parts.2;
      v_plane = c.in_ok-chroma_plane-2.ensures ∙ ap (option_map zeros) found.parts.2;
      subsampling = ap (λ (request : FrameRequest). request.subsampling) c.self.view_is;
      bit_depth = found.parts.0;
    }
