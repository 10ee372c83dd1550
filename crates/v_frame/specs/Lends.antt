-- The final state of a frame after a `&mut` to one of its planes was lent.
use Rattle.std.specs.Prelude.{ℕ, ◌==◌, if◌then◌else◌, Option, Some}
use Rattle.std.specs.Borrow.{LendsIf, Fml, RattleType, MutBor}
use Rattle.v_frame_raster.specs.Raster.{Raster}
use Rattle.v_frame.specs.declared.frame.Frame.{Frame}
use Rattle.v_frame.specs.contracts.frame.Frame.{the_row}
use Rattle.v_frame_plane.specs.contracts.plane.Plane.{the_row as plane_row}

-- The frame with the plane at an index replaced.
abbrev pub with_plane : {T : Type 0} → Frame T → ℕ → Raster T → Frame T
with_plane frame index plane =
    if index == 0 then record frame { y_plane = plane }
    else (if index == 1 then record frame { u_plane = Some plane }
    else (if index == 2 then record frame { v_plane = Some plane } else frame))

-- When the borrow r ends, the plane at this index is the final value of r.
abbrev pub LendsPlane : (T : RattleType) → MutBor (Frame T.Denot) → ℕ
    → Option (MutBor (Raster T.Denot)) → Fml
LendsPlane T frame index r =
    LendsIf (the_row T) (plane_row T) frame r (with_plane frame.now index) frame.now
