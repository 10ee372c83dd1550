-- Both rotations in a row, by the law.
use Rattle.std.proofs.Common.{◌∙◌, ap}
use Rattle.v_frame.specs.Prelude.{table_of}
use Rattle.v_frame_turn.specs.Prelude.{rotated_90}
use Rattle.example_conversions.proofs.turns.turn_there_and_back.Goals as goal

pub returns-clause-table : goal.returns-clause-table
returns-clause-table g c =
    c.rotate_90.ensures.table ∙ ap (λ p. rotated_90 (table_of p)) c.as_plane_ref.ensures
    ∙ ap rotated_90 c.rotate_270.ensures.table
    ∙ c.quarter_turns_add_up.ensures.back (table_of c.args.source.now) _ _ c.shown_tables_have_sizes.ensures
