-- A `&` to the entries of a block reaches each of them. Assumes `Logic`.
use Rattle.v_frame_buffer.proofs.Steps.{[], ◌++◌, RattleType, Laws, Incl-trans, meet_⊑_left, RawPtr, copy_shared}
use Rattle.v_frame_buffer.proofs.Steps.{field_copy, of_Lends}
use Rattle.core.specs.contracts.marker.PhantomData as marker
use Rattle.v_frame_buffer.specs.contracts.aligned.block.Cells as C
use Rattle.v_frame_buffer.proofs.aligned.block.Cells.TheLaw.Statement.{statement}
use Rattle.v_frame_buffer.proofs.block.BlockLent.{cells_lent_laws, Lends-cells}

pub shares : (R : RattleType) (L : Laws R) → statement R L
shares R L =
    of_Lends (C.struct R) (C.the_codes R.Denot R.coded (marker.the_row RawPtr).coded) (C.the_heap R) (C.the_lent R)
    (λ d p. cells_lent_laws R L.shr_laws d.at d.items d.spare)
    (copy_shared (marker.the_field RawPtr) (field_copy (marker.the_type RawPtr) tt), tt)
    (λ M 𝓤 𝓛 d p. Lends-cells 𝓛 (C.the_row R).lives R L
    (Incl-trans (meet_⊑_left (R.lives ++ []) _) (meet_⊑_left R.lives [])) d.at d.items d.spare)
