-- A fact about the borrowed buffer holds for the plane after the borrow ends.
use Rattle.std.proofs.Common.{length, ap, ◌∙◌}
use Rattle.v_frame_raster.proofs.tables.Lists.{refill_same}
use Rattle.v_frame_ops.proofs.border.pad.Goals as goal

pub returns-clause-padded : goal.returns-clause-padded
returns-clause-padded g c =
    rw (refill_same c.args.plane.now.buffer c.pad_buffer.new.buffer
    (c.pad_buffer.auto.buffer ∙ ap length c.data_mut.ensures.value))
    (rw (c.geometry-geometry.ensures.value) at c.pad_buffer.ensures.padded)

pub returns-clause-table : goal.returns-clause-table
returns-clause-table g c =
    rw (refill_same c.args.plane.now.buffer c.pad_buffer.new.buffer
    (c.pad_buffer.auto.buffer ∙ ap length c.data_mut.ensures.value))
    (rw (c.geometry-geometry.ensures.value, c.data_mut.ensures.value) at c.pad_buffer.ensures.table)
