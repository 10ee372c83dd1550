-- A format with a different name is skipped.
use Rattle.std.proofs.Common.{arith, rules}
use Rattle.v_frame_formats.proofs.Places.{format_below, format_further, named_at}
use Rattle.v_frame_formats.proofs.format.VideoFormat.named.Goals as goal

pub loop-format-preserved : goal.loop-format-preserved
loop-format-preserved c = λ f is. format_further c.args.name.now c.loop-format.format-index _ f
    (λ same. absurd (search (rules, c.is_called.ensures.1 same))) is (c.loop-format.invariant f is)

pub returns-then-is_called-clause-some : goal.returns-then-is_called-clause-some
returns-then-is_called-clause-some c =
    (named_at c.loop-format.format-index _ c.loop-format-test.true, c.is_called.ensures.0 (search rules))

pub returns-clause-none : goal.returns-clause-none
returns-clause-none c = λ f is. omega (arith, c.loop-format.invariant f is, format_below f is.0, c.loop-format-test.false)
