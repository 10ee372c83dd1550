-- `held_rows_are_the_table` executes nothing. Two lemmas show its contract. Assumes `Logic`.
use Rattle.v_frame_buffer.proofs.Steps.{[], ◌∷◌, param, layouts, a_type, ‵, ◌$◌, ◌∵◌, !, qed, assume, done, each, use1}
use Rattle.v_frame_buffer.proofs.Steps.{fjoin, use0, Ura, Logic, RattleType, ent, emp, sem}
use Rattle.v_frame_plane.specs.Dropped.{DroppedRowsKeepTheirPixels, RowsAreHeld}
use Rattle.v_frame_plane.specs.LendsTable.{HeldRowsAreTheTable, LendsRows, LendsTable}
use Rattle.v_frame_plane.specs.RowsLeft.{rows_left}
use Rattle.v_frame_plane.specs.FinalRows.{FinalRows}
use Rattle.v_frame_plane.specs.contracts.laws.held_rows_are_the_table
use Rattle.v_frame_plane.specs.contracts.rows_mut.RowsMut.{the_row}
use Rattle.v_frame_plane.proofs.lent.Dropped.{meets}
use Rattle.v_frame_plane.proofs.lent.EndsTable.{lends_table}
use Rattle.v_frame_plane.proofs.lent.RowLoans.{rows_dropped}
use Rattle.v_frame_plane.proofs.laws.held_rows_are_the_table.Statement.{statement}
use Rattle.v_frame_plane.proofs.laws.held_rows_are_the_table.Code as code

module _ {M : Type 1} {𝓤 : Ura M} (𝓛 : Logic 𝓤) (T : RattleType) where
  dropped : ent 𝓤 (emp 𝓤) (sem 𝓛 (DroppedRowsKeepTheirPixels T))
  dropped = qed 𝓛 [] ∵ each ! _ (λ lifetime. each ! _ (λ walk. each ! _
      (λ values. assume ! (‵ ((the_row lifetime T).own_val walk values)) $
      use1 𝓛 (‵ (FinalRows T walk (rows_left walk))) (rows_dropped 𝓛 T lifetime walk values) $ done !)))

  held : ent 𝓤 (emp 𝓤) (sem 𝓛 (HeldRowsAreTheTable T))
  held = qed 𝓛 [] ∵ each ! _ (λ plane. each ! _ (λ walk. each ! _
      (λ written. assume ! (‵ (LendsRows T plane walk)) $
      use1 𝓛 (‵ (LendsTable T plane walk)) (lends_table 𝓛 T plane walk written) $ done !)))

  both : ent 𝓤 (emp 𝓤) (sem 𝓛 (RowsAreHeld T))
  both = qed 𝓛 [] ∵ use0 𝓛 (‵ (HeldRowsAreTheTable T)) held $ use0 𝓛 (‵ (DroppedRowsKeepTheirPixels T)) dropped $
      fjoin ! $ done !

pub held_rows_are_the_table_spec : {M : Type 1} → statement M
held_rows_are_the_table_spec 𝓤 𝓛 𝓜 𝓡 wired T laws = let item = param 0 T in
    meets 𝓛 𝓜 𝓡 T (RowsAreHeld item) (held_rows_are_the_table.Key.name (layouts (a_type ∷ []) (T, tt)))
    (code.unfolded 𝓤 𝓛.H 𝓜 𝓡 wired (T, tt)) (both 𝓛 item)
