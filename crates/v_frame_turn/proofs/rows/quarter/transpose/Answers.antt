-- The rows that are written have the pixels of the transformed table.
use Rattle.v_frame_turn.proofs.Transposed.{shown_transposed}
use Rattle.v_frame_turn.proofs.rows.quarter.transpose.Goals as goal

pub returns-clause-table : goal.returns-clause-table
returns-clause-table g c =
    shown_transposed c.args.width c.args.height c.args.stride c.turn.new.buffer c.args.source.now
    (rw c.turn.auto.buffer c.requires.fit)
    c.turn.ensures.source c.requires.wide c.turn.ensures.pixels
