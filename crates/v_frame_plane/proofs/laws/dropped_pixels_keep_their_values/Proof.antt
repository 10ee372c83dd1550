-- `dropped_pixels_keep_their_values` executes nothing. A lemma shows that the final values of a dropped iterator are
-- its current pixels. Assumes `Logic`.
use Rattle.v_frame_buffer.proofs.Steps.{[], ◌∷◌, param, layouts, a_type, ‵, ◌$◌, ◌∵◌, !, qed, assume, done, each, use1}
use Rattle.v_frame_plane.specs.Dropped.{DroppedPixelsKeepTheirValues}
use Rattle.v_frame_plane.specs.PixelsLeft.{pixels_left}
use Rattle.v_frame_plane.specs.FinalPixels.{FinalPixels}
use Rattle.v_frame_plane.specs.contracts.laws.dropped_pixels_keep_their_values
use Rattle.v_frame_plane.specs.contracts.pixels_mut.PixelsMut.{the_row}
use Rattle.v_frame_plane.proofs.lent.Dropped.{meets}
use Rattle.v_frame_plane.proofs.lent.PixelsDropped.{pixels_dropped}
use Rattle.v_frame_plane.proofs.laws.dropped_pixels_keep_their_values.Statement.{statement}
use Rattle.v_frame_plane.proofs.laws.dropped_pixels_keep_their_values.Code as code

pub dropped_pixels_keep_their_values_spec : {M : Type 1} → statement M
dropped_pixels_keep_their_values_spec 𝓤 𝓛 𝓜 𝓡 wired T laws = let item = param 0 T in
    meets 𝓛 𝓜 𝓡 T (DroppedPixelsKeepTheirValues item)
    (dropped_pixels_keep_their_values.Key.name (layouts (a_type ∷ []) (T, tt)))
    (code.unfolded 𝓤 𝓛.H 𝓜 𝓡 wired (T, tt))
    (qed 𝓛 [] ∵ each ! _ (λ lifetime. each ! _ (λ walk. each ! _
    (λ values. assume ! (‵ ((the_row lifetime item).own_val walk values)) $
    use1 𝓛 (‵ (FinalPixels item walk (pixels_left walk))) (pixels_dropped 𝓛 item lifetime walk values) $ done !))))
