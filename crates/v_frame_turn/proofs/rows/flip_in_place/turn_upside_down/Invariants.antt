-- The rows processed so far are swapped with the rows at the same distance from the bottom, and everything else is
-- unchanged.
use Rattle.v_frame.specs.Prelude.{strided_rows, KeepsRest}
use Rattle.v_frame_turn.specs.Turning.{list_from}
use Rattle.v_frame_turn.proofs.Exchanged.{ExchangedBelow}
use Rattle.v_frame_turn.proofs.rows.flip_in_place.turn_upside_down.Given as goal

abbrev pub invariant-loop-y : goal.invariant-loop-y
invariant-loop-y g l = record {
  rows : ExchangedBelow (list_from l.mirrored) (strided_rows l.width l.height l.stride l.initial.buffer)
      (strided_rows l.width l.height l.stride l.buffer) l.y;
  rest : KeepsRest l.width l.height l.stride l.initial.buffer l.buffer;
}
