-- The match is the first one with the smallest cost in the columns processed so far.
use Rattle.std.proofs.Common.{◌-◌}
use Rattle.v_frame.specs.Prelude.{table_of}
use Rattle.example_conversions.specs.MotionSearch.{IsFirstLeast, cost_at}
use Rattle.example_conversions.proofs.motion_search.best_of_row.Given as goal

abbrev pub invariant-loop-x : goal.invariant-loop-x
invariant-loop-x g l =
    IsFirstLeast (cost_at g.T.Pixel.form.value (table_of l.plane) (table_of l.block))
    (record l.fn.area { y = l.y; rows = 1; columns = l.x - l.fn.area.x }) l.best
