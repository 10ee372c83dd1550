-- Both columns have their final values so far, and everything else is unchanged or was final before.
use Rattle.v_frame_turn.specs.Turning.{turned_pixel}
use Rattle.v_frame_turn.proofs.Entries.{ColumnsRight}
use Rattle.v_frame_turn.proofs.rows.quarter.turn_pair.Given as goal

abbrev pub invariant-loop-y : goal.invariant-loop-y
invariant-loop-y g l = ColumnsRight (turned_pixel l.corner.from_right l.corner.from_bottom l.source) l.width l.height
    l.stride l.initial.buffer l.buffer l.x l.next l.from l.y
