-- The entries so far are copies of the value, and there is memory for the others.
use Rattle.std.proofs.Common.{◌≡◌, ◌+◌, replicate}
use Rattle.v_frame_buffer.proofs.aligned.AlignedData.new.Given as goal

abbrev pub invariant-loop : goal.invariant-loop
invariant-loop g l = record {
  entries : l.filling.items ≡ replicate l.counter l.value;
  room : l.counter + l.filling.spare ≡ l.len;
}
