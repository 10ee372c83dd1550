-- The bytes processed so far are the bytes of the colors processed so far.
use Rattle.std.proofs.Common.{◌≡◌, ◌*◌, flat_map, take}
use Rattle.v_frame_rgb.specs.Colors.{colors_of}
use Rattle.v_frame_rgb.proofs.rows.decode.decode_row.Given as goal

abbrev pub invariant-loop-x : goal.invariant-loop-x
invariant-loop-x g l =
    take (g.O.ColorOrder.BYTES * l.x) l.out
    ≡ flat_map g.O.ColorOrder.bytes_of (take l.x (colors_of l.matrix l.y l.u l.v))
