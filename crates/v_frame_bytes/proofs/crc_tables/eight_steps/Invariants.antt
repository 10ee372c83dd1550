-- The remaining steps give the remainder after eight steps.
use Rattle.std.proofs.Common.{◌≡◌, ◌-◌, ◌≤◌}
use Rattle.v_frame_bytes.specs.Crc.{divided}
use Rattle.v_frame_bytes.proofs.crc_tables.eight_steps.Given as goal

abbrev pub invariant-loop : goal.invariant-loop
invariant-loop l = record { within : l.counter ≤ 8; same : divided (8 - l.counter) l.left ≡ divided 8 l.rest }
