-- The errors of the frames that were compared so far.
use Rattle.std.specs.Prelude.{Option, Some, None}
use Rattle.v_frame_formats.specs.Sums.{added}
use Rattle.v_frame_formats.specs.declared.sums.PlaneSums.{PlaneSums}

-- The sums after one more frame.
abbrev pub sums_so_far : Option PlaneSums → PlaneSums → PlaneSums
sums_so_far None errors = errors
sums_so_far (Some sums) errors = added sums errors
