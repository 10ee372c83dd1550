-- The rows processed so far are counted.
use Rattle.std.proofs.Common.{get_or, length}
use Rattle.v_frame_statistics.proofs.HistogramSteps.{CountedAbove}
use Rattle.v_frame_statistics.proofs.rows.histograms.histogram_into.Given as goal

abbrev pub invariant-loop-y : goal.invariant-loop-y
invariant-loop-y l = CountedAbove (length l.counts) l.rows l.y (λ v. get_or l.counts v 0)
