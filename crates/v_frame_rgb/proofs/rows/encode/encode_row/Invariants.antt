-- The samples processed so far are the samples of the colors processed so far.
use Rattle.std.proofs.Common.{◌≡◌, map, take}
use Rattle.v_frame_rgb.specs.Colors.{colors_in}
use Rattle.v_frame_rgb.proofs.rows.encode.encode_row.Given as goal

abbrev pub invariant-loop-x : goal.invariant-loop-x
invariant-loop-x g l =
    take l.x l.out
    ≡ map (g.C.Channel.sample l.matrix) (colors_in g.O.ColorOrder.color_at g.O.ColorOrder.BYTES l.x l.colors)
