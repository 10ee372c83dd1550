-- The samples of the interleaved rows are multiplied in place.
use Rattle.std.proofs.Common.{◌∙◌, ap}
use Rattle.v_frame_slices.specs.TopBits.{in_top_bits}
use Rattle.v_frame_raster.proofs.tables.StridedWrites.{rest_kept}
use Rattle.v_frame_slices.proofs.top_bits.raise_by_turns.Goals as goal

pub returns-clause-table : goal.returns-clause-table
returns-clause-table c = c.to_top_bits.ensures.table ∙ ap (in_top_bits c.args.depth) c.interleave.ensures.table

pub returns-clause-rest : goal.returns-clause-rest
returns-clause-rest c =
    rest_kept c.args.width c.args.height c.args.stride _ _ _ c.interleave.ensures.rest c.to_top_bits.ensures.rest
