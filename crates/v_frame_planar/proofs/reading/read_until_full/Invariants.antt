-- The bytes that were read are at the front of the buffer, and no read has failed.
use Rattle.std.proofs.Common.{◌≡◌, ◌≤◌, ◌-◌, length, take}
use Rattle.std.specs.Io.KnownBytes.{Consumes}
use Rattle.v_frame_planar.proofs.reading.read_until_full.Given as goal

abbrev pub invariant-loop-found : goal.invariant-loop-found
invariant-loop-found g l = record {
  within : l.found ≤ length l.buf;
  size : length l.buf ≡ length l.fn.buf;
  got : Consumes (g.R.Read.remaining l.fn.reader.inner) (g.R.Read.remaining l.reader.inner) (take l.found l.buf);
  failures : l.reader.failures ≡ l.fn.reader.failures;
  last_failure : l.reader.last_failure ≡ l.fn.reader.last_failure;
}

abbrev pub decreases-loop-found : goal.decreases-loop-found
decreases-loop-found g l = length l.buf - l.found
