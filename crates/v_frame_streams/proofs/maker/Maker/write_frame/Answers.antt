-- The edited frame can be written as planned.
use Rattle.std.proofs.Common.{subst, sym}
use Rattle.v_frame_streams.specs.Plans.{CanLayOut, Plan}
use Rattle.v_frame_streams.proofs.maker.Maker.write_frame.Goals as goal

pub write-requires : goal.write-requires
write-requires g c =
    let fits = subst (λ (p : Plan). CanLayOut g.S.Pixel.BYTES g.T.Pixel.BYTES p.layout (p.from, p.made) p.to)
    (sym c.show.ensures.plan) c.requires.lays_out in
    (c.type_bounds.static-S, (c.type_bounds.static-T, fits))
