-- The final values of an iterator over lent pixels, from those of its front, its rows and its back. Assumes `Logic`.
use Rattle.v_frame_buffer.proofs.Steps.{List, [], ◌∷◌, RattleType, ent, Ura, ‵, ◌$◌, ◌∵◌, !, qed, done, fpack, Logic}
use Rattle.v_frame_buffer.proofs.Steps.{sem, Fml, fex, fsep}
use Rattle.v_frame_plane.specs.FinalRows.{EndsAs, FinalRows}
use Rattle.v_frame_plane.specs.FinalPixels.{Parts, ArePartsOf, FinalPixels}
use Rattle.v_frame_plane.specs.declared.pixels_mut.PixelsMut.{PixelsMut}

abbrev pub parts_of : {X : Type 0} → List X → List (List X) → List X → Parts X
parts_of front rows back = record { front = front; rows = rows; back = back }

abbrev pub PartsEnd : (T : RattleType) → PixelsMut T.Denot → Parts T.Denot → Fml
PartsEnd T walk parts = fsep (EndsAs T walk.front.ghost_name parts.front)
    (fsep (FinalRows T walk.rows parts.rows) (EndsAs T walk.back.ghost_name parts.back))

pub of_parts : {M : Type 1} {𝓤 : Ura M} (𝓛 : Logic 𝓤) (T : RattleType) (walk : PixelsMut T.Denot)
    (second : List T.Denot) (parts : Parts T.Denot) →
    ArePartsOf walk second parts
    → ent 𝓤 (sem 𝓛 (PartsEnd T walk parts)) (sem 𝓛 (FinalPixels T walk second))
unfolding FinalPixels
of_parts 𝓛 T walk second parts are = qed 𝓛 (‵ (PartsEnd T walk parts) ∷ []) ∵
    fpack ! (ArePartsOf walk second parts) (λ _. PartsEnd T walk parts) are $
    fpack ! (Parts T.Denot) (λ ps. fex (ArePartsOf walk second ps) (λ _. PartsEnd T walk ps)) parts $ done !
