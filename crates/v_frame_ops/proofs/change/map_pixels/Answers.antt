-- The rows that are changed are the visible rows of the plane.
use Rattle.std.proofs.Common.{ap, ◌∙◌}
use Rattle.v_frame_ops.specs.Change.{mapped}
use Rattle.v_frame_ops.proofs.change.map_pixels.Goals as goal

pub returns-clause-pixels : goal.returns-clause-pixels
returns-clause-pixels g c =
    let lent = c.visible_mut-entries.ensures in
    rw (← lent.rows, lent.written c.map_pixels.new.buffer c.map_pixels.ensures.rest.count) c.map_pixels.ensures.pixels

pub returns-clause-mapped : goal.returns-clause-mapped
returns-clause-mapped g c = λ change is.
    let lent = c.visible_mut-entries.ensures in
    lent.written c.map_pixels.new.buffer c.map_pixels.ensures.rest.count ∙ c.map_pixels.ensures.mapped change is
    ∙ ap (mapped (mapped change)) lent.rows
