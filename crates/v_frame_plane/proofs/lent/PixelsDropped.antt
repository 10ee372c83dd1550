-- The final values of a dropped iterator over lent pixels are its current pixels. Assumes `Logic`.
use Rattle.v_frame_buffer.proofs.Steps.{List, [], ◌∷◌, refl, ent, RattleType, NamedLft, Val, Ura, ‵, ◌$◌, ◌∵◌, !, qed}
use Rattle.v_frame_buffer.proofs.Steps.{done, drop, fjoin3, fpick, fsplit, keep, move, use1, Logic, sem}
use Rattle.v_frame_plane.specs.PixelsLeft.{pixels_left}
use Rattle.v_frame_plane.specs.RowsLeft.{rows_left}
use Rattle.v_frame_plane.specs.FinalPixels.{Parts, ArePartsOf, FinalPixels}
use Rattle.v_frame_plane.specs.FinalRows.{EndsAs, FinalRows}
use Rattle.v_frame_plane.specs.contracts.pixels_mut.PixelsMut.{the_row}
use Rattle.v_frame_plane.specs.declared.pixels_mut.PixelsMut.{PixelsMut}
use Rattle.v_frame_plane.proofs.lent.Cuts.{dropped}
use Rattle.v_frame_plane.proofs.lent.PixelParts.{of_parts, parts_of}
use Rattle.v_frame_plane.proofs.lent.RowLoans.{rows_dropped}

module _ {M : Type 1} {𝓤 : Ura M} (𝓛 : Logic 𝓤) (T : RattleType) where
  pub pixels_dropped : (a : NamedLft) (walk : PixelsMut T.Denot) (vs : List Val) →
      ent 𝓤 (sem 𝓛 ((the_row a T).own_val walk vs)) (sem 𝓛 (FinalPixels T walk (pixels_left walk)))
  pixels_dropped a walk vs =
      let parts : Parts T.Denot = parts_of walk.front.now (rows_left walk.rows) walk.back.now in
      let are : ArePartsOf walk (pixels_left walk) parts = record
      { joined = refl; front = refl; rows = refl; back = refl } in
      qed 𝓛 (‵ ((the_row a T).own_val walk vs) ∷ []) ∵ fpick !
      (λ vss. fsplit ! $ drop ! $ fsplit ! $ move ! (1 ∷ []) $ fsplit ! $ move ! (1 ∷ []) $ fsplit ! $
      keep ! (3 ∷ 2 ∷ 0 ∷ []) $
      use1 𝓛 (‵ (EndsAs T walk.front.ghost_name walk.front.now)) (dropped 𝓛 T a.mir a.lft walk.front vss.0) $ move !
      (1 ∷ []) $
      use1 𝓛 (‵ (FinalRows T walk.rows (rows_left walk.rows))) (rows_dropped 𝓛 T a walk.rows vss.1.0) $ move ! (2 ∷ [])
      $
      use1 𝓛 (‵ (EndsAs T walk.back.ghost_name walk.back.now)) (dropped 𝓛 T a.mir a.lft walk.back vss.1.1.0) $
      move ! (2 ∷ 1 ∷ []) $ fjoin3 ! $
      use1 𝓛 (‵ (FinalPixels T walk (pixels_left walk))) (of_parts 𝓛 T walk (pixels_left walk) parts are) $ done !)
