-- The last two members follow one another.
use Rattle.std.proofs.Common.{◌++◌, ◌∷◌, codes}
use Rattle.std.specs.String.{string_bytes}
use lib.Utf8.{encode}
use Rattle.yuv_reports.proofs.Parts.{three_said}
use Rattle.yuv_reports.specs.Frames.{difference_object, longer_member}
use Rattle.yuv_reports.proofs.json.push_end.Goals as goal

pub returns : goal.returns
unfolding encode
returns c = three_said c.push_longer.result (string_bytes c.args.text.now)
    (codes "," ++ (10 ∷ codes "  \"first_difference\": ")) (difference_object c.args.found.now.difference)
    (longer_member c.args.found.now.longer) (string_bytes c.push_str.new.self)
    (string_bytes c.push_difference.new.text) (string_bytes c.push_longer.new.text)
    c.in_ok-push_str.ensures.bytes c.in_ok-push_difference.ensures c.push_longer.ensures
