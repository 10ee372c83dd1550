-- The final entries of a buffer after a `&mut` to its entries was lent.
use Rattle.std.specs.Prelude.{ℕ, List, length, Option, slice_set}
use Rattle.std.specs.Borrow.{Lends, LendsIf, Fml, RattleType, MutBor, Array}
use Rattle.std.specs.List.{refill}
use Rattle.v_frame_buffer.specs.Part.{with_part}
use Rattle.v_frame_buffer.specs.contracts.aligned.AlignedData.{the_row}

-- When the borrow r ends, the entries of the buffer are the final entries of r. The length of r
-- does not change.
abbrev pub LendsEntries : (T : RattleType) → MutBor (List T.Denot) → MutBor (List T.Denot) → Fml
LendsEntries T buffer r =
    Lends (the_row T) (Array T 0) buffer r (refill (length buffer.now) buffer.now)

-- When the borrow r ends, the entries of the buffer from index `start` on are the final entries of
-- r.
abbrev pub LendsPart : (T : RattleType) → MutBor (List T.Denot) → ℕ → MutBor (List T.Denot) → Fml
LendsPart T buffer start r = Lends (the_row T) (Array T 0) buffer r (with_part buffer.now start)

-- When the borrow r ends, the entry of the buffer at index `place` is the final value of r.
abbrev pub LendsEntry : (T : RattleType) → MutBor (List T.Denot) → ℕ → MutBor T.Denot → Fml
LendsEntry T buffer place r = Lends (the_row T) T buffer r (slice_set buffer.now place)

-- When the borrow r ends, the entry of the buffer at index `place` is the final value of r. If
-- there is no such index, nothing is lent.
abbrev pub LendsEntryIf : (T : RattleType) → MutBor (List T.Denot) → ℕ → Option (MutBor T.Denot)
    → Fml
LendsEntryIf T buffer place r =
    LendsIf (the_row T) T buffer r (slice_set buffer.now place) buffer.now

-- When the borrow r of an entry of a slice ends, the entry of the slice at index `place` is the
-- final value of r.
abbrev pub LendsEntryOf : (T : RattleType) → MutBor (List T.Denot) → ℕ → MutBor T.Denot → Fml
LendsEntryOf T entries place r = Lends (Array T 0) T entries r (slice_set entries.now place)
