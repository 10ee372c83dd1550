-- If the rows are not mirrored, they are unchanged.
use Rattle.std.proofs.Common.{reverse, ◌∙◌, ap}
use Rattle.std.proofs.lemmas.List.{map-id}
use Rattle.v_frame.specs.Prelude.{strided_rows}
use Rattle.v_frame_turn.proofs.rows.flip_in_place.flip_vertical_in_place.Goals as goal

pub returns-clause-table : goal.returns-clause-table
returns-clause-table g c =
    c.turn_upside_down.ensures.table
    ∙ ap reverse (map-id (strided_rows c.args.width c.args.height c.args.stride c.args.buffer.now))
