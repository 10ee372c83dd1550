-- The rows processed so far are counted.
use Rattle.std.proofs.Common.{◌+◌, ◌*◌, get_or}
use Rattle.v_frame_statistics.proofs.HistogramSteps.{CountedAbove}
use Rattle.v_frame_statistics.proofs.rows.histograms.histogram.Given as goal

abbrev pub invariant-loop-four : goal.invariant-loop-four
invariant-loop-four l =
    CountedAbove 256 l.rows (4 * l.four)
    (λ v. get_or l.first v 0 + get_or l.second v 0 + (get_or l.third v 0 + get_or l.fourth v 0))

abbrev pub invariant-loop-y : goal.invariant-loop-y
invariant-loop-y l =
    CountedAbove 256 l.rows l.y
    (λ v. get_or l.first v 0 + get_or l.second v 0 + (get_or l.third v 0 + get_or l.fourth v 0))
