-- The pixels processed so far are the pixels of the bytes processed so far.
use Rattle.std.proofs.Common.{◌≡◌, map, take}
use Rattle.v_frame_convert.proofs.byte_pairs.write_pixels.Given as goal

abbrev pub invariant-loop-i : goal.invariant-loop-i
invariant-loop-i g l = take l.i l.row ≡ map g.T.Pixel.form.pixel_of (take l.i l.bytes)
