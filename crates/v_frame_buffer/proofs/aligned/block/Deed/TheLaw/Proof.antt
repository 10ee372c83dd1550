-- A `&` to a deed owns nothing. Assumes `Logic`.
use Rattle.v_frame_buffer.proofs.Steps.{RattleType, Laws, RawPtr, copy_shared, nothing_shr_laws, field_copy, of_Lends}
use Rattle.v_frame_buffer.proofs.Steps.{Lends-nothing}
use Rattle.core.specs.declared.alloc.Allocator.{Ghosts}
use Rattle.core.specs.contracts.marker.PhantomData as marker
use Rattle.v_frame_buffer.specs.contracts.aligned.block.Deed as D
use Rattle.v_frame_buffer.proofs.aligned.block.Deed.TheLaw.Statement.{statement}

pub shares : (R A : RattleType) (g : Ghosts A.Denot) (L : Laws R) (P : Laws A) → statement R A g L P
shares R A g L P =
    of_Lends (D.struct R A g) (D.the_codes R.Denot A.Denot R.coded A.coded (marker.the_row RawPtr).coded)
    (D.the_heap R A g) (D.the_lent R A g)
    (λ d p. nothing_shr_laws) (copy_shared (marker.the_field RawPtr) (field_copy (marker.the_type RawPtr) tt), tt)
    (λ M 𝓤 𝓛 d p. Lends-nothing 𝓛 (D.the_heap R A g d) (D.the_row R A g).lives)
