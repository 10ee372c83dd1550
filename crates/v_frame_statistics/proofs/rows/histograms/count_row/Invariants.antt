-- The pixels processed so far are counted.
use Rattle.std.proofs.Common.{take}
use Rattle.v_frame_statistics.specs.Histogram.{CountsMore}
use Rattle.v_frame_statistics.proofs.rows.histograms.count_row.Given as goal

abbrev pub invariant-loop-x : goal.invariant-loop-x
invariant-loop-x l = CountsMore 256 (take l.x l.row) l.initial.table l.table
