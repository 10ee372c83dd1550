-- No value has a size of 0.
use Rattle.std.proofs.Common.{rules}
use Rattle.yuv_words.proofs.Said.{no_rectangle}
use Rattle.yuv_words.proofs.values.RectangleOptionValue.spelled.Goals as goal

pub returns-then-lacks_pixels : goal.returns-then-lacks_pixels
returns-then-lacks_pixels c =
    no_rectangle c.args.text.now c.in_ok-value.value c.in_ok-value.ensures (c.lacks_pixels.ensures.0 (search rules))
