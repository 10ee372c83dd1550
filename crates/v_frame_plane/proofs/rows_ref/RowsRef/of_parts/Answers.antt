-- The sizes of the table.
use Rattle.std.proofs.Common.{refl}
use Rattle.v_frame_raster.specs.StridedRows.{strided_rows}
use Rattle.v_frame_raster.proofs.tables.Strides.{AreRows, height_of_rows, width_is}
use Rattle.v_frame_plane.proofs.rows_ref.RowsRef.of_parts.Goals as goal

pub returns-clause-width : goal.returns-clause-width
returns-clause-width g c =
    let k = c.args in
    let known : AreRows k.width k.height k.stride k.buffer.now (strided_rows k.width k.height k.stride k.buffer.now) =
    record { is = refl; fit = c.requires } in
    width_is known

pub returns-clause-height : goal.returns-clause-height
returns-clause-height g c = height_of_rows c.args.width c.args.height c.args.stride c.args.buffer.now
