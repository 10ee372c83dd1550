-- The result of `video_frame` for the format and the depth of the color.
use Rattle.std.proofs.Common.{sym}
use Rattle.v_frame_y4m.proofs.header.StreamHeader.frame.Goals as goal

pub returns-clause-refused : goal.returns-clause-refused
returns-clause-refused g c = rw (sym c.subsampling.ensures) (rw (sym c.bit_depth.ensures) c.video_frame.ensures.refused)

pub returns-clause-blank : goal.returns-clause-blank
returns-clause-blank g c = rw (sym c.subsampling.ensures) (rw (sym c.bit_depth.ensures) c.video_frame.ensures.blank)

pub returns-clause-tables : goal.returns-clause-tables
returns-clause-tables g c = rw (sym c.subsampling.ensures) c.video_frame.ensures.tables

pub returns-clause-sizes : goal.returns-clause-sizes
returns-clause-sizes g c = rw (sym c.subsampling.ensures) c.video_frame.ensures.sizes
