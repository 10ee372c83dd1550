-- The digits so far.
use Rattle.std.proofs.Common.{◌≡◌, ◌++◌, ◌-◌, ◌/◌, ◌%◌, ◌^◌, decimal, flat_map}
use Rattle.std.specs.List.{range_with_len}
use Rattle.std.specs.String.{string_bytes}
use Rattle.v_frame_chart.proofs.decimals.push_last_digits.Given as goal

abbrev pub invariant-loop-k : goal.invariant-loop-k
invariant-loop-k l = string_bytes l.text ≡ string_bytes l.fn.text
    ++ flat_map (λ k. decimal (l.number / 10 ^ (l.count - 1 - k) % 10)) (range_with_len 0 l.k)
