-- A `&mut [T]`: its machine value, and its laws.
use Rattle.v_frame_buffer.proofs.Steps.{[], List, length, MutBor, Val, slice_val, RattleType, Lft, Laws, NamedLft, MutSlice, named}
use Rattle.v_frame_buffer.proofs.Steps.{param, of_field, mut_slice_laws, mut_slice_shared, row_shared, param_laws, refl}
use denote.Struct.Field.{mut_slice_field}

abbrev pub slice_of : {X : Type 0} → MutBor (List X) → Val
slice_of x = slice_val x.ref_ptr (length x.now)

module _ (T : RattleType) (κ : Lft) (laws : Laws T) where
  abbrev pub slice_laws : Laws (MutSlice (named 1) κ (param 0 T))
  slice_laws = let ℓ : NamedLft = record { mir = named 1; lft = κ } in of_field (mut_slice_field ℓ (param 0 T) tt)
      (mut_slice_laws ℓ (param 0 T) tt) refl
      (mut_slice_shared ℓ (param 0 T) tt (row_shared (param 0 T) (param_laws 0 T laws)))
