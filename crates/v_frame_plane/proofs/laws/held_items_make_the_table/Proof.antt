-- `held_items_make_the_table` runs nothing. It states two lemmas. Assumes `Logic`.
use Rattle.v_frame_buffer.proofs.Steps.{[], ◌∷◌, param, layouts, a_type, ‵, ◌$◌, ◌∵◌, !, qed, done}
use Rattle.v_frame_buffer.proofs.Steps.{fjoin, use0, Ura, Logic, RattleType, ent, emp, sem}
use Rattle.v_frame_plane.specs.HeldItems.{HeldItemsMakeTheTable, HeldPixelsMakeTheTable, HeldRowsMakeTheTable}
use Rattle.v_frame_plane.specs.contracts.laws.held_items_make_the_table
use Rattle.v_frame_plane.proofs.lent.Dropped.{meets}
use Rattle.v_frame_plane.proofs.lent.HeldItems.{held_rows, held_pixels}
use Rattle.v_frame_plane.proofs.laws.held_items_make_the_table.Statement.{statement}
use Rattle.v_frame_plane.proofs.laws.held_items_make_the_table.Code as code

module _ {M : Type 1} {𝓤 : Ura M} (𝓛 : Logic 𝓤) (T : RattleType) where
  both : ent 𝓤 (emp 𝓤) (sem 𝓛 (HeldItemsMakeTheTable T))
  both = qed 𝓛 [] ∵ use0 𝓛 (‵ (HeldPixelsMakeTheTable T)) (held_pixels 𝓛 T) $
      use0 𝓛 (‵ (HeldRowsMakeTheTable T)) (held_rows 𝓛 T) $ fjoin ! $ done !

pub held_items_make_the_table_spec : {M : Type 1} → statement M
held_items_make_the_table_spec 𝓤 𝓛 𝓜 𝓡 wired T laws = let item = param 0 T in
    meets 𝓛 𝓜 𝓡 T (HeldItemsMakeTheTable item) (held_items_make_the_table.Key.name (layouts (a_type ∷ []) (T, tt)))
    (code.unfolded 𝓤 𝓛.H 𝓜 𝓡 wired (T, tt)) (both 𝓛 item)
