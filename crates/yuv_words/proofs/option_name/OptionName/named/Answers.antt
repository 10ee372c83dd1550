-- An option with a different text is skipped.
use Rattle.std.proofs.Common.{arith, rules}
use Rattle.yuv_words.proofs.Places.{option_below, option_further}
use Rattle.yuv_words.proofs.option_name.OptionName.named.Goals as goal

pub loop-option-preserved : goal.loop-option-preserved
loop-option-preserved c = λ n is. option_further c.args.word.now c.loop-option.option-index _ n
    (λ same. absurd (search (rules, c.is_written.ensures.1 same))) is (c.loop-option.invariant n is)

pub returns : goal.returns
returns c = λ n is. omega (arith, c.loop-option.invariant n is, option_below n, c.loop-option-test.false)
