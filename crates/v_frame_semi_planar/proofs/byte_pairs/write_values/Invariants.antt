-- The bytes so far are the values of the pixels so far.
use Rattle.std.proofs.Common.{◌≡◌, map, take}
use Rattle.v_frame_semi_planar.proofs.byte_pairs.write_values.Given as goal

abbrev pub invariant-loop-i : goal.invariant-loop-i
invariant-loop-i g l = take l.i l.bytes ≡ map g.T.Pixel.form.value (take l.i l.row)
