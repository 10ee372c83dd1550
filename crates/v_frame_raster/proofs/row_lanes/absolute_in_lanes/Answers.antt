-- One more group of eight pixels, and the total of the lanes.
use Rattle.std.proofs.Common.{arith, lit<, ◌≡◌, ◌/◌, length, w16, w32}
use Rattle.std.specs.Int.{abs_diff}
use Rattle.v_frame_raster.proofs.LaneSums.{lanes-add_up, lanes_hold-more}
use Rattle.v_frame_raster.proofs.row_lanes.absolute_in_lanes.Goals as goal

pub loop-eight-preserved : goal.loop-eight-preserved
loop-eight-preserved c =
    lanes_hold-more w16 w32 abs_diff 65535 (λ x y h h1. omega arith) _ _ c.requires.same c.requires.held (lit< tt)
    (omega arith) c.type_inv.a c.type_inv.b _ _ _ c.loop-eight-test.true c.differences-lanes.ensures c.loop-eight.invariant

pub overflow_add-lanes : goal.overflow_add-lanes
overflow_add-lanes c =
    (lanes-add_up w16 w32 abs_diff 65535 (λ x y h h1. omega arith) _ _ c.requires.same c.requires.held (lit< tt)
    (omega arith) c.type_inv.a c.type_inv.b _ _ (omega (arith, c.loop-eight.auto.eight-end)) c.loop-eight.invariant).0

pub loop-i-init : goal.loop-i-init
loop-i-init c =
    let all : c.loop-eight.eight ≡ length c.args.a.now / 8 =
    omega (arith, c.loop-eight-test.false, c.loop-eight.auto.eight-end) in
    rw c.from-sum.ensures
    (rw all at (lanes-add_up w16 w32 abs_diff 65535 (λ x y h h1. omega arith) _ _ c.requires.same c.requires.held (lit< tt)
    (omega arith) c.type_inv.a c.type_inv.b _ _ (omega (arith, c.loop-eight.auto.eight-end)) c.loop-eight.invariant).1)
