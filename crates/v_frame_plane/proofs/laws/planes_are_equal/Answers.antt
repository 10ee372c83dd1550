use Rattle.std.proofs.lemmas.Bool.Decides.{Decides-at, Decides-and}
use Rattle.v_frame_raster.proofs.tables.Equality.{buffers_decide, geometries_decide}
use Rattle.v_frame_plane.proofs.laws.planes_are_equal.Goals as goal

pub returns : goal.returns
returns g c =
    let buffers = buffers_decide g.T.Pixel.form.value g.met.T.Pixel.one_value g.T.PartialEq.eq
    g.met.T.Pixel.eq_by_value c.args.p.now.buffer c.args.q.now.buffer
    in
    Decides-at c.eq.result _ c.eq.ensures (Decides-and _ _
    (geometries_decide c.args.p.now.geometry c.args.q.now.geometry) buffers)
