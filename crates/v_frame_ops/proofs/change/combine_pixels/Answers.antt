-- The rows that are combined are the visible rows of the planes.
use Rattle.v_frame_ops.proofs.change.combine_pixels.Goals as goal

pub returns-clause-pixels : goal.returns-clause-pixels
returns-clause-pixels g c =
    let lent = c.visible_mut-entries.ensures in
    rw (
      ← lent.rows,
      lent.written c.combine_pixels.new.buffer c.combine_pixels.ensures.rest.count,
      ← c.as_rows_ref-other.ensures.value,
    ) c.combine_pixels.ensures.pixels
