-- A block of memory that is being filled: the written entries, and the number of entries that can
-- still be written.
use Rattle.std.specs.Prelude.{ℕ, ◌≡◌, ◌+◌, List, length, refl}
use Rattle.std.specs.Coded.{Coded, code_by, coded×, coded_list, coded_ℕ}
use Rattle.v_frame_buffer.specs.declared.aligned.block.Base.{Base}
use Rattle.v_frame_buffer.specs.declared.aligned.block.Cells.{Cells}
use Rattle.v_frame_buffer.specs.declared.aligned.block.Deed.{Deed}

-- The written entries in order, and the number of entries that can still be written.
pub record Filled (T : Type 0) : Type 0 where
  pub items : List T
  pub spare : ℕ

module _ {T : Type 0} where
  -- The block with these written entries, and with memory for `spare` further entries.
  abbrev pub filled_with : List T → ℕ → Filled T
  filled_with items spare = record { items = items; spare = spare }

  -- The encoding of such a block in the logic.
  abbrev pub filled_code : Coded T → Coded (Filled T)
  filled_code c = code_by (List T × ℕ) (coded× (coded_list c) coded_ℕ)
      (λ f. (f.items, f.spare)) (λ p. filled_with p.0 p.1) (λ _. refl)

-- The parts of a block of `len` entries belong together, and `written` of its entries are written.
pub record IsBlock {T A : Type 0} (base : Base T) (cells : Cells T) (deed : Deed T A) (alloc : A)
    (written len : ℕ) : Type 0 where
  pub begins : cells.at ≡ base.ptr
  pub items : length cells.items ≡ written
  pub room : written + cells.spare ≡ len
  pub deed_begins : deed.at ≡ base.ptr
  pub deed_len : deed.len ≡ len
  pub owner : deed.alloc ≡ alloc
