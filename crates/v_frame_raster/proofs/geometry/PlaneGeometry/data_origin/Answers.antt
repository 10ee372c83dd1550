-- The origin is computed from the fields, and lies in the buffer.
use Rattle.std.proofs.Common.{arith}
use Rattle.v_frame_raster.proofs.Plans.{origin_by_stride}
use Rattle.v_frame_raster.proofs.geometry.PlaneGeometry.data_origin.Goals as goal

pub overflow_add-result : goal.overflow_add-result
overflow_add-result c =
    let is = origin_by_stride _ _ c.self.invariant.0 c.self.invariant.1 in
    let fits = rw (← c.self.view_is) at c.requires in
    omega arith

pub returns-clause-value : goal.returns-clause-value
returns-clause-value c = rw (← c.self.view_is) (origin_by_stride _ _ c.self.invariant.0 c.self.invariant.1).0

pub returns-clause-within : goal.returns-clause-within
returns-clause-within c =
    let is = origin_by_stride _ _ c.self.invariant.0 c.self.invariant.1 in
    rw (← c.self.view_is) (omega arith)
