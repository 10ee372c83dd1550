-- The sizes of the visible rows are the sizes of the planes.
use Rattle.v_frame_turn.proofs.turns.turn_plane.Goals as goal

pub turn-requires-clause-size : goal.turn-requires-clause-size
turn-requires-clause-size g c κs within =
    rw (
      c.as_rows_ref-source.ensures.width,
      c.as_rows_ref-source.ensures.height,
      c.visible_mut-entries.ensures.width,
      c.visible_mut-entries.ensures.height,
    ) c.requires
