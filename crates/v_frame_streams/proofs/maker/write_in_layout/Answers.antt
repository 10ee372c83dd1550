-- The frame fits the layout.
use Rattle.std.proofs.Common.{Option, subst}
use Rattle.v_frame_semi_planar.specs.declared.format.SemiPlanarFormat.{SemiPlanarFormat}
use Rattle.v_frame_streams.specs.Plans.{shape_of, FitsLayout}
use Rattle.v_frame_streams.proofs.Formatting.{has_layout}
use Rattle.v_frame_streams.proofs.maker.write_in_layout.Goals as goal

pub write_layout-requires : goal.write_layout-requires
write_layout-requires g c =
    let frame = c.args.frame.now in
    let fits = subst (λ (l : Option SemiPlanarFormat). FitsLayout g.T.Pixel.BYTES l (shape_of frame)) c.in-Some.is
    c.requires in (
      c.type_bounds.static-T,
      has_layout g.T.Pixel.BYTES g.T.Pixel.form.size c.in-Some.layout frame g.met.T.Pixel.bytes_of_form fits,
    )
