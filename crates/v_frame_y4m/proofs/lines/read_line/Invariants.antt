-- The bytes that were read are at the front of the buffer and contain no line feed. No read has
-- failed.
use Rattle.std.proofs.Common.{◌≡◌, ◌≢◌, ◌≤◌, ◌+◌, ◌-◌, length, take}
use Rattle.std.specs.Prelude.{All}
use Rattle.std.specs.Io.KnownBytes.{Consumes}
use Rattle.v_frame_y4m.specs.Ascii.{line_feed}
use Rattle.v_frame_y4m.proofs.lines.read_line.Given as goal

abbrev pub invariant-loop-byte : goal.invariant-loop-byte
invariant-loop-byte g l = record {
  within : l.at ≤ length l.line;
  size : length l.line ≡ length l.fn.line;
  got : Consumes (g.R.Read.remaining l.fn.reader.inner) (g.R.Read.remaining l.reader.inner) (take l.at l.line);
  ended : All (λ byte. byte ≢ line_feed) (take l.at l.line);
  failures : l.reader.failures ≡ l.fn.reader.failures;
  last_failure : l.reader.last_failure ≡ l.fn.reader.last_failure;
}

abbrev pub decreases-loop-byte : goal.decreases-loop-byte
decreases-loop-byte g l = length l.line + 1 - l.at
