-- `next_of_back` cuts the last pixel off the row that was begun from the back, and keeps the rest.
use Rattle.v_frame_buffer.proofs.Steps.{[], ◌∷◌, a_type, layouts}
use Rattle.v_frame_plane.specs.contracts.pixels_mut.PixelsMut.next_of_back.Key as next_of_back
use Rattle.v_frame_plane.specs.contracts.pixels_mut.cut_last.Key as cut_last
use Rattle.v_frame_plane.proofs.lent.PixelOfRow.{meets}
use Rattle.v_frame_plane.proofs.lent.Sides.{at_back}
use Rattle.v_frame_plane.proofs.lent.Taken.{take_meets}
use Rattle.v_frame_plane.proofs.pixels_mut.cut_last.Met as cut_last_met
use Rattle.v_frame_plane.proofs.pixels_mut.PixelsMut.next_of_back.Statement.{statement}
use Rattle.v_frame_plane.proofs.pixels_mut.PixelsMut.next_of_back.Code as code

pub next_of_back_spec : {M : Type 1} → statement M
next_of_back_spec 𝓤 𝓛 𝓜 𝓡 wired T laws =
    let args = layouts (a_type ∷ []) (T, tt) in
    meets 𝓛 𝓜 𝓡 T laws at_back _ _ _ _ _ _ (cut_last.name args) (next_of_back.name args)
    (take_meets 𝓛 𝓜 𝓡 (code.calls-core::mem::take 𝓡.env wired)
    (code.calls-core::slice::empty::RefMutSliceDefault::default 𝓡.env wired) T laws)
    (cut_last_met.met 𝓤 𝓛 𝓜 𝓡 (code.calls-v_frame_plane::pixels_mut::cut_last 𝓡.env wired) T laws)
    (code.unfolded 𝓤 𝓛.H 𝓜 𝓡 wired (T, tt))
