-- `next_of_front` cuts the first pixel off the row that was begun from the front, and keeps the rest.
use Rattle.v_frame_buffer.proofs.Steps.{[], ◌∷◌, a_type, layouts}
use Rattle.v_frame_plane.specs.contracts.pixels_mut.PixelsMut.next_of_front.Key as next_of_front
use Rattle.v_frame_plane.specs.contracts.pixels_mut.cut_first.Key as cut_first
use Rattle.v_frame_plane.proofs.lent.PixelOfRow.{meets}
use Rattle.v_frame_plane.proofs.lent.Sides.{at_front}
use Rattle.v_frame_plane.proofs.lent.Taken.{take_meets}
use Rattle.v_frame_plane.proofs.pixels_mut.cut_first.Met as cut_first_met
use Rattle.v_frame_plane.proofs.pixels_mut.PixelsMut.next_of_front.Statement.{statement}
use Rattle.v_frame_plane.proofs.pixels_mut.PixelsMut.next_of_front.Code as code

pub next_of_front_spec : {M : Type 1} → statement M
next_of_front_spec 𝓤 𝓛 𝓜 𝓡 wired T laws =
    let args = layouts (a_type ∷ []) (T, tt) in
    meets 𝓛 𝓜 𝓡 T laws at_front _ _ _ _ _ _ (cut_first.name args) (next_of_front.name args)
    (take_meets 𝓛 𝓜 𝓡 (code.calls-core::mem::take 𝓡.env wired)
    (code.calls-core::slice::empty::RefMutSliceDefault::default 𝓡.env wired) T laws)
    (cut_first_met.met 𝓤 𝓛 𝓜 𝓡 (code.calls-v_frame_plane::pixels_mut::cut_first 𝓡.env wired) T laws)
    (code.unfolded 𝓤 𝓛.H 𝓜 𝓡 wired (T, tt))
