-- The size is exact or saturated. A saturated size is above the limit too.
use Rattle.std.proofs.Common.{◌<◌, arith}
use Rattle.std.proofs.lemmas.Grind.{common_steps}
use Rattle.v_frame_raster.proofs.Plans.{counted_size}
use Rattle.v_frame_raster.proofs.geometry.PlaneGeometry.checked_alloc_size.Goals as goal

pub returns : goal.returns
returns c =
    let h = c.self.inside in
    let some : 0 < h.stride = omega (arith, c.self.invariant.0, c.self.invariant.1.wide) in
    let size = counted_size h.height h.pad_top h.pad_bottom h.stride some in
    rw (← c.self.view_is) (grind (arith, common_steps, size, c.self.invariant.0))
