-- Each sample is divided.
use Rattle.std.proofs.Common.{rules, ◌-◌, ◌/◌, ◌^◌}
use Rattle.v_frame_slices.proofs.top_bits.lower.Goals as goal

pub returns-clause-table : goal.returns-clause-table
returns-clause-table c = c.map_into.ensures.converted (λ p. p / 2 ^ (16 - c.args.depth)) (λ p q h. search rules)
