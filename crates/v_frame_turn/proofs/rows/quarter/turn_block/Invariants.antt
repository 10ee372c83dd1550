-- The columns processed so far have their final values, and everything else is unchanged or was final before.
use Rattle.std.proofs.Common.{ℕ, ◌*◌, ◌<◌}
use Rattle.v_frame.specs.Prelude.{strided_rows, KeepsRest}
use Rattle.v_frame_turn.specs.Turning.{turned_pixel, ColumnIsRight, KeepsRight}
use Rattle.v_frame_turn.proofs.rows.quarter.turn_block.Given as goal

abbrev pub invariant-loop-pair : goal.invariant-loop-pair
invariant-loop-pair g l = record {
  columns : (x : ℕ) → x < l.width → x < 2 * l.pair → ColumnIsRight
      (turned_pixel l.corner.from_right l.corner.from_bottom l.source)
      (strided_rows l.width l.height l.stride l.buffer) x l.from l.to;
  kept : KeepsRight (turned_pixel l.corner.from_right l.corner.from_bottom l.source)
      (strided_rows l.width l.height l.stride l.initial.buffer) (strided_rows l.width l.height l.stride l.buffer);
  rest : KeepsRest l.width l.height l.stride l.initial.buffer l.buffer;
}
