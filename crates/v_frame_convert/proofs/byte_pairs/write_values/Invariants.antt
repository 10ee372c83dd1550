-- The bytes processed so far are the values processed so far.
use Rattle.std.proofs.Common.{◌≡◌, map, take}
use Rattle.v_frame_convert.proofs.byte_pairs.write_values.Given as goal

abbrev pub invariant-loop-i : goal.invariant-loop-i
invariant-loop-i g l = take l.i l.bytes ≡ map g.T.Pixel.form.value (take l.i l.row)
