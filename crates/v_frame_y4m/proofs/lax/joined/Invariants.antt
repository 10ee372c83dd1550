-- The line so far, followed by the line of the remaining pieces, is the whole line.
use Rattle.std.proofs.Common.{◌≡◌, drop}
use Rattle.std.specs.Prelude.{filter, map}
use Rattle.v_frame_y4m.specs.Header.{texts_of}
use Rattle.v_frame_y4m.specs.Lax.{full_rate, is_filled, joined}
use Rattle.v_frame_y4m.proofs.LaxLines.{made_so_far}
use Rattle.v_frame_y4m.proofs.lax.joined.Given as goal

abbrev pub invariant-loop-piece : goal.invariant-loop-piece
invariant-loop-piece l =
    joined (texts_of l.pieces)
    ≡ made_so_far l.strict.items (map full_rate (filter is_filled (texts_of (drop l.piece-index l.pieces))))
