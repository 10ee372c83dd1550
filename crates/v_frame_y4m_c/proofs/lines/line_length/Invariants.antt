-- The bytes before the current one have no line feed.
use Rattle.std.proofs.Common.{◌≢◌, ◌≤◌, ◌-◌, length, take}
use Rattle.std.specs.Prelude.{All}
use Rattle.v_frame_y4m.specs.Ascii.{line_feed}
use Rattle.v_frame_y4m.specs.Streams.{max_line_bytes}
use Rattle.v_frame_y4m_c.proofs.lines.line_length.Given as goal

abbrev pub invariant-loop-at : goal.invariant-loop-at
invariant-loop-at l = record {
  within : l.at ≤ length l.bytes;
  short : l.at ≤ max_line_bytes;
  passed : All (λ byte. byte ≢ line_feed) (take l.at l.bytes);
}

abbrev pub decreases-loop-at : goal.decreases-loop-at
decreases-loop-at l = length l.bytes - l.at
