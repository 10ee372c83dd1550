-- The rows of the blocks processed so far have their final values, and everything else is unchanged.
use Rattle.std.proofs.Common.{ℕ, ◌≡◌, ◌*◌, ◌<◌}
use Rattle.v_frame.specs.Prelude.{pixel_at, strided_rows, KeepsRest}
use Rattle.v_frame_turn.specs.Turning.{turned_pixel}
use Rattle.v_frame_turn.proofs.rows.quarter.turn.Given as goal

abbrev pub invariant-loop-block : goal.invariant-loop-block
invariant-loop-block g l = record {
  pixels : (x y : ℕ) → x < l.width → y < l.height → y < 64 * l.block → pixel_at
      (strided_rows l.width l.height l.stride l.buffer) x y
      ≡ turned_pixel l.corner.from_right l.corner.from_bottom l.source x y;
  rest : KeepsRest l.width l.height l.stride l.initial.buffer l.buffer;
}
