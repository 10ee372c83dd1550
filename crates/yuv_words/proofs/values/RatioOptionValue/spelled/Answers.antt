-- The number is 0.
use Rattle.std.proofs.Common.{◌∙◌}
use Rattle.yuv_words.proofs.Said.{no_whole_ratio, one_number}
use Rattle.yuv_words.proofs.values.RatioOptionValue.spelled.Goals as goal

pub returns-then-numerator-eq0 : goal.returns-then-numerator-eq0
returns-then-numerator-eq0 c = no_whole_ratio c.args.text.now c.in_default.ensures c.in_default-ratio_with.ensures
    (λ n is. one_number n c.in_ok-numerator.numerator c.args.text.now is c.in_ok-numerator.ensures
    ∙ c.if-numerator-eq0.true)
