-- The line of a difference.
use Rattle.std.proofs.Common.{append_assoc}
use Rattle.yuv_reports.proofs.lines.push_difference.Goals as goal

pub returns : goal.returns
returns c = rw (c.in-Some.is, ← c.letter-plane.ensures) (simp append_assoc at c.writeln.ensures.bytes)
