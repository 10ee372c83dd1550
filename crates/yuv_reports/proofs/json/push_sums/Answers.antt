-- The members follow one another.
use Rattle.std.proofs.Common.{◌++◌, ◌∙◌, ap, append-nil, codes, decimal}
use Rattle.std.specs.String.{string_bytes}
use lib.Utf8.{encode}
use Rattle.yuv_reports.specs.Sums.{number_after}
use Rattle.yuv_reports.proofs.Parts.{ends_with_four}
use Rattle.yuv_reports.proofs.json.push_sums.Goals as goal

pub returns : goal.returns
unfolding encode
returns c =
    let sums = c.in-Some.sums in
    let start = string_bytes c.push_str.new.self in
    let key = codes "\"squared_errors\": {\"y\": " in
    rw c.in-Some.is
    (ends_with_four c.push.result start key (decimal sums.y) (number_after (codes ", \"u\": ") sums.u)
    (number_after (codes ", \"v\": ") sums.v) (codes "}") (string_bytes c.push_number.new.text)
    (string_bytes c.push_sum.new.text) (string_bytes c.push_sum-2.new.text) (string_bytes c.push.new.self)
    (c.in_ok-push_number.ensures ∙ ap (λ number. start ++ (key ++ number)) (append-nil (decimal sums.y)))
    c.in_ok-push_sum.ensures c.in_ok-push_sum-2.ensures c.push.ensures.bytes)
