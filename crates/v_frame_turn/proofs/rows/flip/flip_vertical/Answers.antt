-- If the rows are not mirrored, they are unchanged.
use Rattle.std.proofs.Common.{reverse, ◌∙◌, ap}
use Rattle.std.proofs.lemmas.List.{map-id}
use Rattle.v_frame_turn.proofs.rows.flip.flip_vertical.Goals as goal

pub returns-clause-table : goal.returns-clause-table
returns-clause-table g c = c.flip.ensures.table ∙ ap reverse (map-id c.args.source.now)
