-- `next_back` takes the last of the remaining rows.
use Rattle.v_frame_buffer.proofs.Steps.{[], ◌∷◌, a_type, layouts}
use Rattle.core.proofs.slice.slice+T.split_at_mut.Met as split_met
use Rattle.v_frame_plane.specs.contracts.rows_mut.RowsMut.next_back.Key as next_back
use Rattle.v_frame_plane.proofs.lent.RowNext.{meets}
use Rattle.v_frame_plane.proofs.lent.Sides.{at_back}
use Rattle.v_frame_plane.proofs.lent.Taken.{take_meets}
use Rattle.v_frame_plane.proofs.rows_mut.row_place.Met as row_place_met
use Rattle.v_frame_plane.proofs.rows_mut.RowsMut.next_back.Statement.{statement}
use Rattle.v_frame_plane.proofs.rows_mut.RowsMut.next_back.Code as code

pub next_back_spec : {M : Type 1} → statement M
next_back_spec 𝓤 𝓛 𝓜 𝓡 wired T laws =
    meets 𝓛 𝓜 𝓡 T laws at_back _ _ _ _ _ _ _ _ (next_back.name (layouts (a_type ∷ []) (T, tt)))
    (row_place_met.met 𝓤 𝓛 𝓜 𝓡 (code.calls-v_frame_plane::rows_mut::row_place 𝓡.env wired))
    (take_meets 𝓛 𝓜 𝓡 (code.calls-core::mem::take 𝓡.env wired)
    (code.calls-core::slice::empty::RefMutSliceDefault::default 𝓡.env wired) T laws)
    (split_met.met 𝓤 𝓛 𝓜 𝓡 (code.calls-core::slice::slice+T::split_at_mut 𝓡.env wired) T laws)
    (code.unfolded 𝓤 𝓛.H 𝓜 𝓡 wired (T, tt))
