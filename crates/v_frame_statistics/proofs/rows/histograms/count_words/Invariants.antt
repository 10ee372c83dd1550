-- The pixels processed so far are counted.
use Rattle.std.proofs.Common.{◌*◌, take, length}
use Rattle.v_frame_statistics.specs.Histogram.{CountsMore}
use Rattle.v_frame_statistics.proofs.rows.histograms.count_words.Given as goal

abbrev pub invariant-loop-four : goal.invariant-loop-four
invariant-loop-four l = CountsMore (length l.fn.counts) (take (4 * l.four) l.row) l.fn.counts l.counts

abbrev pub invariant-loop-x : goal.invariant-loop-x
invariant-loop-x l = CountsMore (length l.fn.counts) (take l.x l.row) l.fn.counts l.counts
