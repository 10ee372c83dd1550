-- The entries so far are computed.
use Rattle.std.proofs.Common.{ℕ, ◌≡◌, ◌+◌, ◌*◌, ◌/◌, ◌%◌, ◌<◌, get_or, length}
use Rattle.v_frame_bytes.specs.Crc.{divided}
use Rattle.v_frame_bytes.proofs.crc_tables.CrcTables.new.Given as goal

abbrev pub invariant-loop-k : goal.invariant-loop-k
invariant-loop-k l = record {
  size : length l.entries ≡ 4096;
  made : (j : ℕ) → j < l.k → get_or l.entries j 0 ≡ divided (8 * (j / 256 + 1)) (j % 256);
}

abbrev pub invariant-loop-k-2 : goal.invariant-loop-k-2
invariant-loop-k-2 l = record {
  size : length l.entries ≡ 4096;
  made : (j : ℕ) → j < l.k → get_or l.entries j 0 ≡ divided (8 * (j / 256 + 1)) (j % 256);
}
