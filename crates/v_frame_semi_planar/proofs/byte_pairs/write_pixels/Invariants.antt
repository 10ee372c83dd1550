-- The pixels so far are those of the bytes so far.
use Rattle.std.proofs.Common.{◌≡◌, map, take}
use Rattle.v_frame_semi_planar.proofs.byte_pairs.write_pixels.Given as goal

abbrev pub invariant-loop-i : goal.invariant-loop-i
invariant-loop-i g l = take l.i l.row ≡ map g.T.Pixel.form.pixel_of (take l.i l.bytes)
