-- Each sample is divided.
use Rattle.std.proofs.Common.{rules, ◌-◌, ◌/◌, ◌^◌}
use Rattle.v_frame_semi_planar.proofs.rows.top_bits.from_top_bits.Goals as goal

pub returns-clause-table : goal.returns-clause-table
returns-clause-table c = c.map_pixels.ensures.mapped (λ p. p / 2 ^ (16 - c.args.bit_depth)) (λ p q h. search rules)
