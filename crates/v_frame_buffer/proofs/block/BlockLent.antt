-- A `&` to a block is made from a `&` to each of its entries. Assumes `Logic`.
use Rattle.v_frame_buffer.proofs.Steps.{ℕ, ◌+◌, ◌*◌, List, [], ◌∷◌, length, Ura, full_share, Lft, ftrue, fsep, Logic}
use Rattle.v_frame_buffer.proofs.Steps.{RattleType, Laws, type_size, Incl, ffalse, RowLaws, part_at, shared_of, Ptr}
use Rattle.v_frame_buffer.proofs.Steps.{block_ptr, null_ptr, ShrLaws, said, beside_shr_laws, nothing_shr_laws}
use Rattle.v_frame_buffer.proofs.Steps.{said_shr_laws, Lends, Lends-both, Lends-first, Lends-nothing, Lends-said}
use Rattle.v_frame_buffer.proofs.Steps.{Lends-false}
use denote.Shares.{Shares-less}
use Rattle.v_frame_buffer.specs.Block.{entries_at, lent_at, room_at, fits, cells_own, cells_lent}

module _ (R : RattleType) (L : RowLaws R) where
  lent_at_laws : (b o : ℕ) (xs : List R.Denot) → ShrLaws (lent_at R b o xs)
  lent_at_laws b o [] = nothing_shr_laws
  lent_at_laws b o (x ∷ xs) = beside_shr_laws _ _ (L x b o) (lent_at_laws b (o + type_size R) xs)

  pub cells_lent_laws : (p : Ptr) (xs : List R.Denot) (n : ℕ) → ShrLaws (cells_lent R p xs n)
  cells_lent_laws (block_ptr b o) xs n = beside_shr_laws _ _ (said_shr_laws (fits R (length xs + n)) tt)
      (lent_at_laws b o xs)
  cells_lent_laws null_ptr xs n = said_shr_laws ffalse tt

module _ {M : Type 1} {𝓤 : Ura M} (𝓛 : Logic 𝓤) (l : Lft) (R : RattleType) (L : Laws R) (inc : Incl l R.lives) where
  Lends-entries : (b o : ℕ) (xs : List R.Denot) → Lends 𝓛 (entries_at R b o xs) (lent_at R b o xs) l
  Lends-entries b o [] = Lends-nothing 𝓛 ftrue l
  Lends-entries b o (x ∷ xs) =
      Lends-both 𝓛 (part_at R full_share x b o) (entries_at R b (o + type_size R) xs) (shared_of R x b o)
      (lent_at R b (o + type_size R) xs) l
      (λ κ ts. Shares-less 𝓛 R R.lives l inc (L.shares 𝓛) x κ ts b o) (Lends-entries b (o + type_size R) xs)

  pub Lends-cells : (p : Ptr) (xs : List R.Denot) (n : ℕ) → Lends 𝓛 (cells_own R p xs n) (cells_lent R p xs n) l
  Lends-cells (block_ptr b o) xs n =
      let rooms = room_at R b (length xs * type_size R + o) n in
      Lends-both 𝓛 (fits R (length xs + n)) (fsep (entries_at R b o xs) rooms) (said (fits R (length xs + n)))
      (lent_at R b o xs) l
      (Lends-said 𝓛 (fits R (length xs + n)) tt l)
      (Lends-first 𝓛 (entries_at R b o xs) rooms (lent_at R b o xs) l (Lends-entries b o xs))
  Lends-cells null_ptr xs n = Lends-false 𝓛 (said ffalse) l
