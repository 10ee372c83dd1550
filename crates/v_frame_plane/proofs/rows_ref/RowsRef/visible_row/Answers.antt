-- The row is a part of the slice.
use Rattle.std.proofs.Common.{◌≡◌, ◌+◌, ◌-◌, ◌*◌, sym, ◌∙◌, arith}
use Rattle.v_frame_raster.proofs.tables.Strides.{AreRows, row_is, row_ends, row_length, width_is}
use Rattle.v_frame_plane.proofs.rows_ref.RowsRef.visible_row.Goals as goal

pub overflow_mul-start : goal.overflow_mul-start
overflow_mul-start g c =
    let k = c.self.inside in
    let known : AreRows k.width k.height k.stride k.buffer.now c.args.self.now = record
    { is = c.self.view_is; fit = c.self.invariant } in
    omega (arith, row_ends known c.args.y c.requires, c.self.told)

pub overflow_add-result : goal.overflow_add-result
overflow_add-result g c =
    let k = c.self.inside in
    let known : AreRows k.width k.height k.stride k.buffer.now c.args.self.now = record
    { is = c.self.view_is; fit = c.self.invariant } in
    omega (arith, row_ends known c.args.y c.requires, c.self.told)

pub offset_bounds-self-inside-start : goal.offset_bounds-self-inside-start
offset_bounds-self-inside-start g c =
    let k = c.self.inside in
    let known : AreRows k.width k.height k.stride k.buffer.now c.args.self.now = record
    { is = c.self.view_is; fit = c.self.invariant } in
    omega (arith, row_ends known c.args.y c.requires)

pub slice_bounds-result-end : goal.slice_bounds-result-end
slice_bounds-result-end g c =
    let k = c.self.inside in
    let known : AreRows k.width k.height k.stride k.buffer.now c.args.self.now = record
    { is = c.self.view_is; fit = c.self.invariant } in
    search (arith, row_ends known c.args.y c.requires)

pub returns-clause-value : goal.returns-clause-value
returns-clause-value g c =
    let k = c.self.inside in
    let known : AreRows k.width k.height k.stride k.buffer.now c.args.self.now = record
    { is = c.self.view_is; fit = c.self.invariant } in
    let n : k.stride * c.args.y + k.width - k.stride * c.args.y ≡ k.width = omega arith in
    rw n (row_is known c.args.y c.requires)

pub returns-clause-wide : goal.returns-clause-wide
returns-clause-wide g c =
    let k = c.self.inside in
    let known : AreRows k.width k.height k.stride k.buffer.now c.args.self.now = record
    { is = c.self.view_is; fit = c.self.invariant } in
    let n : k.stride * c.args.y + k.width - k.stride * c.args.y ≡ k.width = omega arith in
    rw n (row_length known c.args.y c.requires
    ∙ sym (width_is known))
