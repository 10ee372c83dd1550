-- One more digit.
use Rattle.std.proofs.Common.{◌-◌, ◌/◌, ◌%◌, ◌^◌, decimal, rules}
use Rattle.v_frame_chart.proofs.Appended.{appended}
use Rattle.v_frame_chart.proofs.decimals.push_last_digits.Goals as goal

pub loop-k-preserved : goal.loop-k-preserved
loop-k-preserved c =
    appended (λ k. decimal (c.args.number / 10 ^ (c.args.count - 1 - k) % 10)) c.loop-k.k _ _ _ (search rules)
    c.loop-k.invariant
