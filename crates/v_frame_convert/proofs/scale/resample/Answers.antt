-- The rows that are written are the visible rows of the target.
use Rattle.v_frame_convert.proofs.scale.resample.Goals as goal

pub returns-clause-table : goal.returns-clause-table
returns-clause-table g c =
    let shown = c.visible_mut-entries.ensures.written c.resample.new.buffer c.resample.ensures.rest.count in
    cc (shown, c.resample.ensures.table)
