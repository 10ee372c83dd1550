-- One more value.
use Rattle.std.proofs.Common.{arith}
use Rattle.yuv_facts.proofs.Outside.{outside_more}
use Rattle.yuv_facts.proofs.statistics.outside.Goals as goal

pub loop-value-preserved : goal.loop-value-preserved
loop-value-preserved c =
    let range = c.args.range in
    let more = outside_more range c.args.counts.now c.loop-value.value 0 c.loop-value-test.true in
    omega (arith, more, c.loop-value.invariant, c.saturating_add-outside.ensures, c.count_outside.ensures)
