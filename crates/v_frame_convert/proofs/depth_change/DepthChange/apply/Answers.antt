-- One of the two shifts is by 0 bits.
use Rattle.std.proofs.Common.{◌∙◌}
use Rattle.v_frame_convert.proofs.Depths.{changed_depth}
use Rattle.v_frame_convert.proofs.depth_change.DepthChange.apply.Goals as goal

pub returns-clause-value : goal.returns-clause-value
returns-clause-value c =
    let change = c.args.self.now in
    c.min-2.ensures ∙ rw (
      c.saturating_add.ensures,
      c.min.ensures,
      change.largest_source_is,
      change.half_is,
      change.up_is,
      change.down_is,
      change.largest_is,
    ) (changed_depth change.from change.to c.args.value change.from_high change.to_high)
