-- The values of the frame follow its number.
use Rattle.std.proofs.Common.{◌++◌, ◌∙◌, ap, codes, decimal}
use Rattle.std.specs.String.{string_bytes}
use lib.Utf8.{encode}
use Rattle.yuv_reports.proofs.Parts.{before_end}
use Rattle.yuv_reports.specs.Sums.{row_end}
use Rattle.yuv_reports.proofs.csv.push_frame.Goals as goal

pub returns : goal.returns
unfolding encode
returns c = before_end c.push_str.result (string_bytes c.args.text.now) (decimal c.args.number ++ codes ",")
    (row_end c.args.measures.now.sums) (string_bytes c.push_number.new.text) (string_bytes c.push_measures.new.text) c.as_str.result.now
    (string_bytes c.push_str.new.self) (c.in_ok-push_number.ensures
    ∙ ap (λ n. string_bytes c.args.text.now ++ (decimal n ++ codes ",")) c.from.ensures)
    c.in_ok-push_measures.ensures c.as_str.ensures.value c.push_str.ensures.bytes
