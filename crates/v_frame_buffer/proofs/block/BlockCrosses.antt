-- The parts of a block may cross threads if its entries and its allocator may.
use Rattle.v_frame_buffer.proofs.Steps.{ℕ, ◌+◌, ◌*◌, List, [], ◌∷◌, full_share, RattleType, ◌==◌, Bool, true, false}
use Rattle.v_frame_buffer.proofs.Steps.{type_size, Ptr, block_ptr, null_ptr}
use Rattle.v_frame_buffer.proofs.Steps.{to, IsSend, IsSync, Common, part_keyless, owning_send, struct_sync, sendable}
use base.Shift.{Keyless}
use denote.Struct.Owning.{shape}
use Rattle.core.specs.declared.alloc.Allocator.{Ghosts}
use Rattle.std_alloc.proofs.SendSync.{FreesAnywhere}
use Rattle.v_frame_buffer.specs.Block.{entries_at, lent_at, cells_own, cells_lent, token_if}
use Rattle.v_frame_buffer.specs.contracts.aligned.block.Cells as Cells
use Rattle.v_frame_buffer.specs.contracts.aligned.block.Deed as Deed

module _ (R : RattleType) where
  entries_keyless : IsSend R → (b o : ℕ) (xs : List R.Denot) → Keyless (entries_at R b o xs)
  entries_keyless s b o [] = tt
  entries_keyless s b o (x ∷ xs) = (part_keyless R s full_share x b o, entries_keyless s b (o + type_size R) xs)

  lent_common : IsSync R → (b o : ℕ) (xs : List R.Denot) → Common (lent_at R b o xs)
  lent_common y b o [] κ = tt
  lent_common y b o (x ∷ xs) κ = (y.shared x b o κ, lent_common y b (o + type_size R) xs κ)

  cells_keyless : IsSend R → (p : Ptr) (xs : List R.Denot) (n : ℕ) → Keyless (cells_own R p xs n)
  cells_keyless s (block_ptr b o) xs n = (tt, (entries_keyless s b o xs, tt))
  cells_keyless s null_ptr xs n = tt

  cells_common : IsSync R → (p : Ptr) (xs : List R.Denot) (n : ℕ) → Common (cells_lent R p xs n)
  cells_common y (block_ptr b o) xs n κ = (tt, lent_common y b o xs κ)
  cells_common y null_ptr xs n κ = tt

  -- The entries of a block may be sent if one entry may.
  pub cells_cross : IsSend R → IsSend (Cells.the_row R)
  cells_cross s = owning_send (Cells.the_type R) (search sendable, tt) (λ d. cells_keyless s d.at d.items d.spare)
      (λ k d w. tt)

  -- They may be shared if one entry may.
  pub cells_shared : IsSync R → IsSync (Cells.the_row R)
  cells_shared y =
      let O = Cells.the_type R in
      record {
        shared = λ d b o κ. (
          (struct_sync (shape O) (search sendable, tt)).shared (to O d) b o κ,
          cells_common y
              d.at d.items d.spare κ,
        );
      }

  module _ (A : RattleType) (g : Ghosts A.Denot) where
    token_keyless : FreesAnywhere A.Denot g → (alloc : A.Denot) (p : Ptr) (n : ℕ) (none : Bool) → Keyless
        (token_if R none (g.dealloc_token alloc) p n)
    token_keyless f alloc p n true = tt
    token_keyless f alloc p n false = f.frees alloc _ p

    -- The right to free a block may be sent if the allocator allows any thread to free its blocks.
    pub deed_crosses : FreesAnywhere A.Denot g → IsSend (Deed.the_row R A g)
    deed_crosses f =
        owning_send (Deed.the_type R A g) (search sendable, tt)
        (λ d. token_keyless f d.alloc d.at d.len (d.len * type_size R == 0)) (λ k d w. tt)

    -- A `&` to this right states nothing.
    pub deed_shared : IsSync (Deed.the_row R A g)
    deed_shared =
        let O = Deed.the_type R A g in
        record { shared = λ d b o κ. ((struct_sync (shape O) (search sendable, tt)).shared (to O d) b o κ, tt) }
