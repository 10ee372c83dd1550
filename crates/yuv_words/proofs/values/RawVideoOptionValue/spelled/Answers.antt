-- No value has a size of 0.
use Rattle.std.proofs.Common.{rules}
use Rattle.yuv_words.proofs.Said.{no_raw}
use Rattle.yuv_words.proofs.values.RawVideoOptionValue.spelled.Goals as goal

pub returns-then-lacks_pixels : goal.returns-then-lacks_pixels
returns-then-lacks_pixels c =
    no_raw c.args.text.now c.in_ok-value.value c.in_ok-value.ensures (c.lacks_pixels.ensures.0 (search rules))

pub returns-in_err-value : goal.returns-in_err-value
returns-in_err-value c = rw c.from_residual.ensures (λ raw is. c.in_err-value.ensures raw is.0)
