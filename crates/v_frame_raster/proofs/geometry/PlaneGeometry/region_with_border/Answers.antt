-- The column and the row are counted from the edge of the buffer, or do not lie in it.
use Rattle.std.proofs.Common.{◌≡◌, ap, to_z, of_z, w64}
use Rattle.v_frame_raster.specs.Geometry.{Geometry}
use Rattle.v_frame_raster.proofs.SignedPlaces.{as_it_is, column_fits, row_fits, some_if}
use Rattle.v_frame_raster.proofs.geometry.PlaneGeometry.region_with_border.Goals as goal

pub returns-in_err-left-clause-value : goal.returns-in_err-left-clause-value
returns-in_err-left-clause-value c =
    let x : to_z w64 (of_z w64 c.args.x) ≡ c.args.x = as_it_is c.args.x c.ranges.x in
    let pad : c.self.inside.pad_left ≡ c.args.self.now.pad_left = ap (λ (g : Geometry). g.pad_left) c.self.view_is in
    let is = rw c.self.view_is at c.self.invariant.1 in
    rw c.from_residual.ensures (λ inside. c.in_err-left.ensures (rw (x, pad)
    (column_fits c.args.self.now c.args.x c.args.y c.args.width c.args.height is inside)))

pub returns-in_err-top-clause-value : goal.returns-in_err-top-clause-value
returns-in_err-top-clause-value c =
    let y : to_z w64 (of_z w64 c.args.y) ≡ c.args.y = as_it_is c.args.y c.ranges.y in
    let pad : c.self.inside.pad_top ≡ c.args.self.now.pad_top = ap (λ (g : Geometry). g.pad_top) c.self.view_is in
    let is = rw c.self.view_is at c.self.invariant.1 in
    rw c.from_residual-in_err-top.ensures (λ inside. c.in_err-top.ensures (rw (y, pad)
    (row_fits c.args.self.now c.args.x c.args.y c.args.width c.args.height is c.requires inside)))

pub returns-clause-value : goal.returns-clause-value
returns-clause-value c =
    let x : to_z w64 (of_z w64 c.args.x) ≡ c.args.x = as_it_is c.args.x c.ranges.x in
    let y : to_z w64 (of_z w64 c.args.y) ≡ c.args.y = as_it_is c.args.y c.ranges.y in
    let pad_left : c.self.inside.pad_left ≡ c.args.self.now.pad_left = ap (λ (g : Geometry). g.pad_left) c.self.view_is in
    let pad_top : c.self.inside.pad_top ≡ c.args.self.now.pad_top = ap (λ (g : Geometry). g.pad_top) c.self.view_is in
    let left = rw (x, pad_left) at c.in_ok-left.ensures in
    let top = rw (y, pad_top) at c.in_ok-top.ensures in
    some_if c.region.result _ (λ inside. record { left = left.0.0; above = top.0.0; inside = inside }) (λ is. is.inside)
    (rw (c.whole_buffer.ensures.value, left.1, top.1) at c.region.ensures.value)
