-- The line consists of a text, the mean and another text.
use Rattle.std.specs.String.{string_bytes}
use Rattle.yuv_reports.proofs.Parts.{around}
use Rattle.yuv_reports.specs.Samples.{statistics_end, statistics_front}
use Rattle.yuv_reports.proofs.samples.push_statistics.Goals as goal

pub returns : goal.returns
returns c = around c.push_outside.result (string_bytes c.args.text.now) (statistics_front c.args.found.now)
    c.as_str.result.now (statistics_end c.args.found.now) (string_bytes c.push_extremes.new.text)
    (string_bytes c.push_str.new.self) (string_bytes c.push_outside.new.text) c.in_ok-push_extremes.ensures
    c.in_ok-push_str.ensures.bytes c.push_outside.ensures
