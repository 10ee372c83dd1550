-- The rows so far.
use Rattle.std.proofs.Common.{◌≡◌, ◌++◌, take}
use Rattle.std.specs.String.{string_bytes}
use Rattle.yuv_reports.specs.Histograms.{histogram_rows}
use Rattle.yuv_reports.proofs.samples.push_histogram.Given as goal

abbrev pub invariant-loop-value : goal.invariant-loop-value
invariant-loop-value l =
    string_bytes l.text ≡ string_bytes l.initial.text ++ histogram_rows l.plane 0 (take l.value l.counts)
