-- One more entry holds the value.
use Rattle.std.proofs.Common.{arith}
use Rattle.example_held_items.proofs.HeldRows.{filled_more}
use Rattle.example_held_items.proofs.held_rows.fill.Goals as goal

pub loop-i-preserved : goal.loop-i-preserved
loop-i-preserved g c =
    rw c.loop-i.invariant (filled_more c.args.row.now c.loop-i.i c.args.value (omega (arith, c.loop-i-test.true)))
