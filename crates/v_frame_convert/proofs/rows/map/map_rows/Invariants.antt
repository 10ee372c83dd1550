-- The rows processed so far are results of the closure, and everything else is unchanged.
use Rattle.v_frame_convert.specs.Rows.{GivesItems}
use Rattle.v_frame_convert.proofs.Made.{RowsMadeBelow, GivenAt}
use Rattle.v_frame_convert.proofs.rows.map.map_rows.Given as goal

abbrev pub invariant-loop-y : goal.invariant-loop-y
invariant-loop-y g l =
    RowsMadeBelow (GivenAt (GivesItems (goal.F-post g l.change)) l.source) l.width l.height l.stride
    l.initial.buffer l.buffer l.y
