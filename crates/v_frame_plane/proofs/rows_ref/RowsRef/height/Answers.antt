-- Facts about rows that fit.
use Rattle.std.proofs.Common.{sym, arith}
use Rattle.v_frame_raster.proofs.tables.Strides.{AreRows, height_is, width_is, pixels_fit}
use Rattle.v_frame_plane.proofs.rows_ref.RowsRef.height.Goals as goal

pub returns-clause-value : goal.returns-clause-value
returns-clause-value g c =
    let k = c.self.inside in
    let known : AreRows k.width k.height k.stride k.buffer.now c.args.self.now = record
    { is = c.self.view_is; fit = c.self.invariant } in
    sym (height_is known)

pub returns-clause-countable : goal.returns-clause-countable
returns-clause-countable g c =
    let k = c.self.inside in
    let known : AreRows k.width k.height k.stride k.buffer.now c.args.self.now = record
    { is = c.self.view_is; fit = c.self.invariant } in
    rw (width_is known)
    (omega (arith, pixels_fit known))
