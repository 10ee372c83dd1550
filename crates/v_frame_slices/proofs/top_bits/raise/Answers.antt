-- Each sample is multiplied.
use Rattle.std.proofs.Common.{rules, ◌-◌, ◌*◌, ◌%◌, ◌^◌}
use Rattle.v_frame_slices.proofs.top_bits.raise.Goals as goal

pub returns-clause-table : goal.returns-clause-table
returns-clause-table c = c.map_into.ensures.converted (λ p. p * 2 ^ (16 - c.args.depth) % 2 ^ 16) (λ p q h. search rules)
