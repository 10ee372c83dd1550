-- The largest value of a depth is a right shift of 65535, and half of a power of two is below 65536.
use Rattle.v_frame_convert.proofs.Depths.{largest_by_shift}
use Rattle.v_frame_convert.proofs.depth_change.DepthChange.new.Goals as goal

pub invariant_of-result-clause-largest_source_is : goal.invariant_of-result-clause-largest_source_is
invariant_of-result-clause-largest_source_is c =
    largest_by_shift c.args.from c.requires.from.0 c.requires.from.1

pub invariant_of-result-clause-largest_is : goal.invariant_of-result-clause-largest_is
invariant_of-result-clause-largest_is c = largest_by_shift c.args.to c.requires.to.0 c.requires.to.1
