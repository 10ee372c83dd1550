-- The bytes processed so far are the bytes of the colors processed so far.
use Rattle.std.proofs.Common.{◌≡◌, ◌*◌, flat_map, take}
use Rattle.v_frame_rgb.specs.Exact.{exact_colors}
use Rattle.v_frame_rgb.proofs.rows.exact.decode_row.Given as goal

abbrev pub invariant-loop-x : goal.invariant-loop-x
invariant-loop-x g l =
    take (g.O.ColorOrder.BYTES * l.x) l.out
    ≡ flat_map g.O.ColorOrder.bytes_of
    (take l.x (exact_colors l.matrix.standard l.matrix.range l.matrix.depth g.T.Pixel.form l.y l.u l.v))
