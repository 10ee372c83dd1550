-- `next_back` takes its pixel from the row that was begun from the back, and begins another row if this one is used
-- up.
use Rattle.v_frame_buffer.proofs.Steps.{[], ◌∷◌, a_type, layouts}
use Rattle.v_frame_plane.specs.contracts.pixels_mut.PixelsMut.next_back.Key as next_back
use Rattle.v_frame_plane.specs.contracts.pixels_mut.PixelsMut.next_of_back.Key as next_of_back
use Rattle.v_frame_plane.specs.contracts.rows_mut.RowsMut.next_back.Key as rows_next_back
use Rattle.v_frame_plane.proofs.lent.PixelNext.{meets}
use Rattle.v_frame_plane.proofs.lent.Sides.{at_back}
use Rattle.v_frame_plane.proofs.lent.Taken.{take_meets}
use Rattle.v_frame_plane.proofs.pixels_mut.PixelsMut.next_of_back.Met as next_of_back_met
use Rattle.v_frame_plane.proofs.rows_mut.RowsMut.next_back.Met as rows_next_back_met
use Rattle.v_frame_plane.proofs.pixels_mut.PixelsMut.next_back.Statement.{statement}
use Rattle.v_frame_plane.proofs.pixels_mut.PixelsMut.next_back.Code as code

pub next_back_spec : {M : Type 1} → statement M
next_back_spec 𝓤 𝓛 𝓜 𝓡 wired T laws =
    let args = layouts (a_type ∷ []) (T, tt) in
    meets 𝓛 𝓜 𝓡 T laws at_back _ _ _ _ _ _ _ (next_of_back.name args) (rows_next_back.name args) _ (next_back.name args)
    (next_of_back_met.met 𝓤 𝓛 𝓜 𝓡 (code.calls-v_frame_plane::pixels_mut::PixelsMut::next_of_back 𝓡.env wired) T laws)
    (rows_next_back_met.met 𝓤 𝓛 𝓜 𝓡 (code.calls-v_frame_plane::rows_mut::RowsMut::next_back 𝓡.env wired) T laws)
    (take_meets 𝓛 𝓜 𝓡 (code.calls-core::mem::take 𝓡.env wired)
    (code.calls-core::slice::empty::RefMutSliceDefault::default 𝓡.env wired) T laws)
    (code.unfolded 𝓤 𝓛.H 𝓜 𝓡 wired (T, tt))
