-- One more row.
use Rattle.std.proofs.Common.{◌++◌, ◌∙◌, ap, append_assoc, arith, sym, take}
use Rattle.std.proofs.Math.ListN.{get_or}
use Rattle.std.specs.String.{string_bytes}
use Rattle.yuv_reports.specs.Histograms.{histogram_row, histogram_rows}
use Rattle.yuv_reports.proofs.Rows.{rows_so_far}
use Rattle.yuv_reports.proofs.samples.push_histogram.Goals as goal

pub loop-value-preserved : goal.loop-value-preserved
loop-value-preserved c =
    let plane = c.args.plane in
    let counts = c.args.counts.now in
    let value = c.loop-value.value in
    let start = string_bytes c.args.text.now in
    let before = histogram_rows plane 0 (take value counts) in
    let row = histogram_row plane value (get_or counts value 0) in
    c.in_ok-push_row.ensures ∙ ap (λ text. text ++ row) c.loop-value.invariant ∙ append_assoc start before row
    ∙ ap (λ rows. start ++ rows) (sym (rows_so_far plane counts value 0 (omega arith)))
