-- The pairs so far are summed.
use Rattle.std.proofs.Common.{◌*◌, ℕ}
use Rattle.std.specs.Int.{abs_diff}
use Rattle.v_frame_raster.specs.PixelRows.{squared_error}
use Rattle.v_frame_raster.proofs.LaneSums.{LanesHold}
use Rattle.v_frame_raster.proofs.SumsOfPairs.{SumsUpTo}
use Rattle.v_frame_raster.proofs.row_lanes.squared_in_lanes.Given as goal

abbrev pub invariant-loop-eight : goal.invariant-loop-eight
invariant-loop-eight l = LanesHold squared_error 4294836225 l.a l.b l.eight l.lanes

abbrev pub invariant-loop-i : goal.invariant-loop-i
invariant-loop-i l = SumsUpTo (λ p. squared_error p.0 p.1) l.i l.a l.b l.sum
