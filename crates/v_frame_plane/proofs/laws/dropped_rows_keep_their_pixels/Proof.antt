-- `dropped_rows_keep_their_pixels` executes nothing. A lemma shows that the final values of a dropped iterator are
-- its current rows. Assumes `Logic`.
use Rattle.v_frame_buffer.proofs.Steps.{[], ◌∷◌, param, layouts, a_type, ‵, ◌$◌, ◌∵◌, !, qed, assume, done, each, use1}
use Rattle.v_frame_plane.specs.Dropped.{DroppedRowsKeepTheirPixels}
use Rattle.v_frame_plane.specs.RowsLeft.{rows_left}
use Rattle.v_frame_plane.specs.FinalRows.{FinalRows}
use Rattle.v_frame_plane.specs.contracts.laws.dropped_rows_keep_their_pixels
use Rattle.v_frame_plane.specs.contracts.rows_mut.RowsMut.{the_row}
use Rattle.v_frame_plane.proofs.lent.Dropped.{meets}
use Rattle.v_frame_plane.proofs.lent.RowLoans.{rows_dropped}
use Rattle.v_frame_plane.proofs.laws.dropped_rows_keep_their_pixels.Statement.{statement}
use Rattle.v_frame_plane.proofs.laws.dropped_rows_keep_their_pixels.Code as code

pub dropped_rows_keep_their_pixels_spec : {M : Type 1} → statement M
dropped_rows_keep_their_pixels_spec 𝓤 𝓛 𝓜 𝓡 wired T laws = let item = param 0 T in
    meets 𝓛 𝓜 𝓡 T (DroppedRowsKeepTheirPixels item)
    (dropped_rows_keep_their_pixels.Key.name (layouts (a_type ∷ []) (T, tt)))
    (code.unfolded 𝓤 𝓛.H 𝓜 𝓡 wired (T, tt))
    (qed 𝓛 [] ∵ each ! _ (λ lifetime. each ! _ (λ walk. each ! _
    (λ values. assume ! (‵ ((the_row lifetime item).own_val walk values)) $
    use1 𝓛 (‵ (FinalRows item walk (rows_left walk))) (rows_dropped 𝓛 item lifetime walk values) $ done !))))
