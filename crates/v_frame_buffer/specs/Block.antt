-- The memory that the parts of a block own and lend. The entries have the type R. The written
-- entries come first, and uninitialized memory for further entries follows.
use Rattle.std.specs.Prelude.{ℕ, ◌+◌, ◌*◌, ◌^◌, ◌==◌, Bool, true, false, List, [], ◌∷◌, length}
use Rattle.std.specs.Mem.{type_size}
use base.Fraction.{full_share}
use base.Fml.{Lft, Fml, ftrue, ffalse, fsep, flt, froom}
use mir.Syntax.{Ty, ty_array}
use mir.Raw.{raw}
use denote.RattleType.{RattleType}
use denote.Memory.{lone, part_at, shared_of}
use denote.Sharing.{nothing, said, beside}
use denote.RawPtr.{Ptr, block_ptr, null_ptr}

module _ (R : RattleType) where
  -- Consecutive entries. The first one begins o bytes into the block b.
  abbrev pub entries_at : ℕ → ℕ → List R.Denot → Fml
  entries_at b o [] = ftrue
  entries_at b o (x ∷ xs) = fsep (part_at R full_share x b o) (entries_at b (o + type_size R) xs)

  -- Uninitialized memory for n entries. It begins o bytes into the block b.
  abbrev pub room_at : ℕ → ℕ → ℕ → Fml
  room_at b o n = froom (raw (ty_array (lone R.mir) n)) b o

  -- Consecutive entries, as a shared reference to them lends them.
  abbrev pub lent_at : ℕ → ℕ → List R.Denot → Lft → Fml
  lent_at b o [] = nothing
  lent_at b o (x ∷ xs) = beside (shared_of R x b o) (lent_at b (o + type_size R) xs)

  -- The size of n entries is less than 2 ^ 63 bytes.
  abbrev pub fits : ℕ → Fml
  fits n = flt (n * type_size R) (2 ^ 63)

  -- The entries from p on, and uninitialized memory for `spare` further entries.
  abbrev pub cells_own : Ptr → List R.Denot → ℕ → Fml
  cells_own (block_ptr b o) items spare =
      fsep (fits (length items + spare))
      (fsep (entries_at b o items) (room_at b (length items * type_size R + o) spare))
  cells_own null_ptr items spare = ffalse

  -- The entries that a shared reference to these cells lends.
  abbrev pub cells_lent : Ptr → List R.Denot → ℕ → Lft → Fml
  cells_lent (block_ptr b o) items spare =
      beside (said (fits (length items + spare))) (lent_at b o items)
  cells_lent null_ptr items spare = said ffalse

  -- The allocator's token for a block of n entries, unless the entries take no bytes.
  abbrev pub token_if : Bool → (Ty → Ptr → Fml) → Ptr → ℕ → Fml
  token_if true token p n = ftrue
  token_if false token p n = token (raw (ty_array (lone R.mir) n)) p

  -- The allocator's token for a block of n entries. If they take no bytes, there is no block.
  abbrev pub deed_owns : (Ty → Ptr → Fml) → Ptr → ℕ → Fml
  deed_owns token p n = token_if (n * type_size R == 0) token p n
