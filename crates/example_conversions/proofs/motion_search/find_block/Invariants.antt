-- The match is the first one with the smallest cost in the rows processed so far.
use Rattle.std.proofs.Common.{◌-◌}
use Rattle.v_frame.specs.Prelude.{table_of}
use Rattle.example_conversions.specs.MotionSearch.{IsFirstLeast, cost_at}
use Rattle.example_conversions.proofs.motion_search.find_block.Given as goal

abbrev pub invariant-loop-y : goal.invariant-loop-y
invariant-loop-y g l =
    IsFirstLeast (cost_at g.T.Pixel.form.value (table_of l.plane) (table_of l.block))
    (record l.fn.area { rows = l.y - l.fn.area.y }) l.best
