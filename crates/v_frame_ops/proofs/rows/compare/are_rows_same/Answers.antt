-- Two rows are equal if and only if `==` of all their pixels is true.
use Rattle.std.proofs.lemmas.Bool.Decides.{Decides-at}
use Rattle.v_frame_raster.proofs.tables.Equality.{buffers_decide}
use Rattle.v_frame_ops.proofs.rows.compare.are_rows_same.Goals as goal

pub returns : goal.returns
returns g c =
    Decides-at c.eq.result _ c.eq.ensures
    (buffers_decide g.T.Pixel.form.value g.met.T.Pixel.one_value g.T.PartialEq.eq g.met.T.Pixel.eq_by_value
    c.args.row.now c.args.other.now)
