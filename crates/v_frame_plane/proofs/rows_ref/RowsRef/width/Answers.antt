-- Facts about rows that fit.
use Rattle.std.proofs.Common.{sym}
use Rattle.v_frame_raster.proofs.tables.Strides.{AreRows, width_is, rows_are_wide}
use Rattle.v_frame_plane.proofs.rows_ref.RowsRef.width.Goals as goal

pub returns-clause-value : goal.returns-clause-value
returns-clause-value g c =
    let k = c.self.inside in
    let known : AreRows k.width k.height k.stride k.buffer.now c.args.self.now = record
    { is = c.self.view_is; fit = c.self.invariant } in
    sym (width_is known)

pub returns-clause-rows : goal.returns-clause-rows
returns-clause-rows g c =
    let k = c.self.inside in
    let known : AreRows k.width k.height k.stride k.buffer.now c.args.self.now = record
    { is = c.self.view_is; fit = c.self.invariant } in
    rows_are_wide known
