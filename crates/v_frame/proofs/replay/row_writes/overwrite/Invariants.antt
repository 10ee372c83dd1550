-- The row so far is overwritten by the entries of the list that were read.
use Rattle.std.proofs.Common.{◌≡◌, take}
use Rattle.v_frame_raster.specs.Table.{overwritten_row}
use Rattle.v_frame.proofs.replay.row_writes.overwrite.Given as goal

abbrev pub invariant-loop-i : goal.invariant-loop-i
invariant-loop-i g l = l.row ≡ overwritten_row l.initial.row (take l.i l.writes)
