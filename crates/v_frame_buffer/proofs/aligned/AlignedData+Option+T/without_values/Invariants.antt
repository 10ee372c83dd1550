-- The entries so far are empty, and there is memory for the others.
use Rattle.std.proofs.Common.{◌≡◌, ◌+◌, replicate, None}
use Rattle.v_frame_buffer.proofs.aligned.AlignedData+Option+T.without_values.Given as goal

abbrev pub invariant-loop : goal.invariant-loop
invariant-loop g l = record {
  entries : l.filling.items ≡ replicate l.counter None;
  room : l.counter + l.filling.spare ≡ l.len;
}
