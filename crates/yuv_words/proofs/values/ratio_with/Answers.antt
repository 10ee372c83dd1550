-- The text after the mark is not a number, or one of the two numbers is 0.
use Rattle.yuv_words.proofs.Cuts.{rest_is}
use Rattle.yuv_words.proofs.Said.{no_ratio}
use Rattle.yuv_words.proofs.values.ratio_with.Goals as goal

pub returns-in_err-denominator : goal.returns-in_err-denominator
returns-in_err-denominator c = rw c.from_residual-in_err-denominator.ensures (λ r is.
    let rest = rest_is c.args.mark c.requires.apart c.args.text.now c.in_ok-numerator.rest.now c.in_ok-numerator.numerator
    r.numerator _ c.in_ok-numerator.ensures is.1.0 is.0 in
    c.in_err-denominator.ensures r.denominator (rest, is.1.1))

pub returns-then-numerator-eq0 : goal.returns-then-numerator-eq0
returns-then-numerator-eq0 c = no_ratio c.args.mark c.requires.apart c.args.text.now c.in_ok-numerator.rest.now
    c.in_ok-numerator.numerator c.in_ok-denominator.denominator c.in_ok-numerator.ensures c.in_ok-denominator.ensures
    c.then-numerator-eq0.either
