-- The appended bytes and the remaining bytes are those of the plane, and the memory for the remaining bytes is
-- reserved.
use Rattle.std.proofs.Common.{◌≡◌, ◌++◌, ◌+◌, ◌≤◌, length, vec_len, vec_capacity}
use Rattle.v_frame.specs.Prelude.{table_of, byte_list}
use Rattle.example_callers.proofs.raw_bytes.append_bytes.Given as goal

abbrev pub invariant-loop-byte : goal.invariant-loop-byte
invariant-loop-byte g l = record {
  can : (goal.iterator-loop-byte g).can_next l.byte-iterator;
  finite : (goal.iterator-loop-byte g).is_finite l.byte-iterator;
  bytes : l.out.items ++ l.byte-iterator ≡ l.fn.out.items ++ byte_list g.T.Pixel.form (table_of l.plane);
  room : vec_len l.out + length l.byte-iterator ≤ vec_capacity l.out;
}
