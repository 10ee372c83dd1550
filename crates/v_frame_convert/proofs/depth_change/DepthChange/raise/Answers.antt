-- The shift loses no bit.
use Rattle.std.proofs.Common.{◌∙◌}
use Rattle.v_frame_convert.proofs.Depths.{raised_depth}
use Rattle.v_frame_convert.proofs.depth_change.DepthChange.raise.Goals as goal

pub returns-clause-value : goal.returns-clause-value
returns-clause-value c =
    let change = c.args.self.now in
    rw (c.min.ensures, change.largest_source_is, change.up_is)
    (raised_depth change.from change.to c.args.value c.requires change.to_high).0

pub returns-clause-fits : goal.returns-clause-fits
returns-clause-fits c =
    let change = c.args.self.now in
    let raised = raised_depth change.from change.to c.args.value c.requires change.to_high in
    rw (c.min.ensures, change.largest_source_is, change.up_is, raised.0) raised.1
