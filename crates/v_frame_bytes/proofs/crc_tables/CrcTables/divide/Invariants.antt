-- Dividing the remaining bytes gives the remainder of all bytes.
use Rattle.std.proofs.Common.{◌≡◌, length, drop}
use Rattle.std.specs.Prelude.{fold}
use Rattle.v_frame_bytes.specs.Crc.{crc_step}
use Rattle.v_frame_bytes.proofs.crc_tables.CrcTables.divide.Given as goal

abbrev pub invariant-loop-ahead : goal.invariant-loop-ahead
invariant-loop-ahead l = fold crc_step l.left l.ahead ≡ fold crc_step l.rest l.bytes

abbrev pub decreases-loop-ahead : goal.decreases-loop-ahead
decreases-loop-ahead l = length l.ahead

abbrev pub invariant-loop-byte : goal.invariant-loop-byte
invariant-loop-byte l = fold crc_step l.left (drop l.byte-index l.byte-items) ≡ fold crc_step l.rest l.bytes
