-- The samples of both parts of the rows are divided in place.
use Rattle.std.proofs.Common.{ℕ, ◌-◌, ◌/◌, ◌^◌, sym, ◌∙◌, ap}
use Rattle.v_frame_ops.specs.Prelude.{mapped}
use Rattle.v_frame_raster.proofs.tables.StridedWrites.{rest_kept}
use Rattle.v_frame_slices.proofs.ByTurns.{mapped_by_turns}
use Rattle.v_frame_slices.proofs.top_bits.lower_apart.Goals as goal

pub returns-clause-table : goal.returns-clause-table
returns-clause-table c =
    let lowered : ℕ → ℕ = λ p. p / 2 ^ (16 - c.args.depth) in
    rw (c.from_top_bits.ensures.table, c.from_top_bits-2.ensures.table) (sym (mapped_by_turns lowered _ _)
    ∙ ap (mapped (mapped lowered)) (sym c.deinterleave.ensures.table))

pub returns-clause-first_rest : goal.returns-clause-first_rest
returns-clause-first_rest c =
    rest_kept c.args.size.0 c.args.size.1 c.args.first_stride _ _ _ c.deinterleave.ensures.first_rest
    c.from_top_bits.ensures.rest

pub returns-clause-second_rest : goal.returns-clause-second_rest
returns-clause-second_rest c =
    rest_kept c.args.size.0 c.args.size.1 c.args.second_stride _ _ _ c.deinterleave.ensures.second_rest
    c.from_top_bits-2.ensures.rest
