-- A command with a different name is skipped.
use Rattle.std.proofs.Common.{arith, rules}
use Rattle.yuv_words.proofs.Places.{command_below, command_further}
use Rattle.yuv_words.proofs.command.CommandName.named.Goals as goal

pub loop-command-preserved : goal.loop-command-preserved
loop-command-preserved c = λ n is. command_further c.args.word.now c.loop-command.command-index _ n
    (λ same. absurd (search (rules, c.is_written.ensures.1 same))) is (c.loop-command.invariant n is)

pub returns : goal.returns
returns c = λ n is. omega (arith, c.loop-command.invariant n is, command_below n, c.loop-command-test.false)
