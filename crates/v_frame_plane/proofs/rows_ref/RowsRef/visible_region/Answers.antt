-- The rectangle consists of rows with the same stride, beginning at its upper left corner.
use Rattle.std.proofs.Common.{◌∙◌, ap, arith}
use Rattle.v_frame_raster.specs.StridedRows.{strided_rows}
use Rattle.v_frame_raster.proofs.tables.Strides.{AreRows, part_begins, part_fits, part_is}
use Rattle.v_frame_plane.proofs.rows_ref.RowsRef.visible_region.Goals as goal

pub overflow_mul-self-inside : goal.overflow_mul-self-inside
overflow_mul-self-inside g c =
    let k = c.self.inside in
    let known : AreRows k.width k.height k.stride k.buffer.now c.args.self.now = record
    { is = c.self.view_is; fit = c.self.invariant } in
    omega (arith, part_begins known c.requires, c.self.told)

pub overflow_add-self-inside : goal.overflow_add-self-inside
overflow_add-self-inside g c =
    let k = c.self.inside in
    let known : AreRows k.width k.height k.stride k.buffer.now c.args.self.now = record
    { is = c.self.view_is; fit = c.self.invariant } in
    omega (arith, part_begins known c.requires, c.self.told)

pub split_at-requires : goal.split_at-requires
split_at-requires g c =
    let k = c.self.inside in
    let known : AreRows k.width k.height k.stride k.buffer.now c.args.self.now = record
    { is = c.self.view_is; fit = c.self.invariant } in
    part_begins known c.requires

pub of_parts-requires : goal.of_parts-requires
of_parts-requires g c =
    let k = c.self.inside in
    let known : AreRows k.width k.height k.stride k.buffer.now c.args.self.now = record
    { is = c.self.view_is; fit = c.self.invariant } in
    rw c.split_at.ensures.back
    (part_fits known c.requires)

pub returns-clause-value : goal.returns-clause-value
returns-clause-value g c =
    let k = c.self.inside in
    let known : AreRows k.width k.height k.stride k.buffer.now c.args.self.now = record
    { is = c.self.view_is; fit = c.self.invariant } in
    c.of_parts.ensures.value ∙ ap (strided_rows c.args.width c.args.height k.stride) c.split_at.ensures.back
    ∙ part_is known c.requires
