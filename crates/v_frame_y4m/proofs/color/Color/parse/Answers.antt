-- A color with another spelling is skipped.
use Rattle.std.proofs.Common.{rules}
use Rattle.v_frame_y4m.proofs.ColorTexts.{further, stated_at}
use Rattle.v_frame_y4m.proofs.color.Color.parse.Goals as goal

pub loop-color-preserved : goal.loop-color-preserved
loop-color-preserved c = λ d said is. further c.args.text.now c.loop-color.color-index _ d (λ same. absurd (search (
  rules,
  c.is_spelled.ensures.1 same,
))) said is (c.loop-color.invariant d said is)

pub returns-then-is_spelled-clause-known : goal.returns-then-is_spelled-clause-known
returns-then-is_spelled-clause-known c = c.is_spelled.ensures.0 (search rules)

pub returns-then-is_spelled-clause-said : goal.returns-then-is_spelled-clause-said
returns-then-is_spelled-clause-said c = stated_at c.loop-color.color-index _ c.loop-color-test.true
