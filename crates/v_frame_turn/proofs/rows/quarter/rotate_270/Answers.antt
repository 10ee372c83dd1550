-- The rows that are written have the pixels of the transformed table.
use Rattle.std.proofs.Common.{◌-◌, ◌∙◌, ap}
use Rattle.v_frame.specs.Prelude.{pixel_at}
use Rattle.v_frame_turn.proofs.Transposed.{shown_rotated_270}
use Rattle.v_frame_turn.proofs.rows.quarter.rotate_270.Goals as goal

pub returns-clause-table : goal.returns-clause-table
returns-clause-table g c =
    shown_rotated_270 c.args.width c.args.height c.args.stride c.turn.new.buffer c.args.source.now
    (rw c.turn.auto.buffer c.requires.fit)
    c.turn.ensures.source c.requires.wide (λ x y i j. c.turn.ensures.pixels x y i j ∙ ap
    (λ n. pixel_at c.args.source.now (n - 1 - y) x) c.requires.high)

pub returns-clause-pixels : goal.returns-clause-pixels
returns-clause-pixels g c = λ x y i j. c.turn.ensures.pixels x y i j ∙ ap
    (λ n. pixel_at c.args.source.now (n - 1 - y) x) c.requires.high
