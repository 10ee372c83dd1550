-- The final state of a plane whose rows or pixels were lent by an iterator, if its items have the final values that
-- the draws leave. Assumes `Logic`.
use Rattle.v_frame_buffer.proofs.Steps.{param, List, ent, sep, wand, RattleType, Ura, Logic, sem, via, mono_r, apply∗}
use Rattle.v_frame_buffer.proofs.Steps.{MutBor, SProp, ◌≡◌, length, Fml, fex, fpick, done, qed, use2, !, ‵, [], ◌∷◌, ◌$◌, ◌∵◌}
use Rattle.v_frame_raster.specs.Raster.{Raster, table_of}
use Rattle.v_frame_raster.specs.Table.{cut_rows, width_of, height_of, row_major}
use Rattle.std.specs.{Prelude.map}
use Rattle.v_frame_plane.specs.{LendsTable.EndsWith}
use Rattle.v_frame.specs.Walk.{walk_leaves}
use Rattle.v_frame.proofs.ItemKinds.{Draw, Entry, FinalItems, Kind, EndsBy, Walk, made, of_pixels, shown, side_of, written}
use Rattle.v_frame.proofs.{DrawnItems.rows_as_long}

module _ {M : Type 1} {𝓤 : Ura M} (𝓛 : Logic 𝓤) (T : RattleType) (plane : MutBor (Raster T.Denot)) where
  -- Final values with the required lengths, and the table that they form.
  abbrev pub Fits : (k : Kind) → List (Entry T k) → Type 0
  Fits of_pixels second = Unit {0}
  Fits _ second = map length second ≡ map length (table_of plane.now)

  abbrev pub as_table : (k : Kind) → List (Entry T k) → List (List T.Denot)
  as_table of_pixels second = let table = table_of plane.now in cut_rows (width_of table) (height_of table) second
  as_table _ second = second

  abbrev pub EndsAs : (k : Kind) → List (Entry T k) → Fml
  EndsAs of_pixels second = let rows = as_table of_pixels second in
      fex (row_major rows ≡ second) (λ _. EndsWith (param 0 T) plane rows)
  EndsAs _ second = EndsWith (param 0 T) plane second

  abbrev Shows : (k : Kind) → List (Entry T k) → SProp 𝓤
  Shows k second = sem 𝓛 (EndsAs k second)

  clause_says : (k : Kind) (walk : Walk T k) (second : List (Entry T k)) → Fits k second →
      ent 𝓤 (sem 𝓛 (EndsBy T k plane walk)) (wand 𝓤 (sem 𝓛 (FinalItems T k walk second)) (Shows k second))
  clause_says of_pixels walk second fits = record { apply = λ a says. says second }
  clause_says k walk second fits = record { apply = λ a says. says second fits }

  -- The final plane shows the table that the final values form.
  pub ends_as : (k : Kind) (walk : Walk T k) (second : List (Entry T k)) → Fits k second →
      ent 𝓤 (sep 𝓤 (sem 𝓛 (FinalItems T k walk second)) (sem 𝓛 (EndsBy T k plane walk))) (Shows k second)
  ends_as k walk second fits = let New = sem 𝓛 (FinalItems T k walk second) in
      via 𝓤 (sep 𝓤 New (wand 𝓤 New (Shows k second))) (mono_r 𝓤 New (clause_says k walk second fits))
      (apply∗ 𝓤 New (Shows k second))

  -- This holds for the final values that the draws leave.
  pub table_ends : (k : Kind) (walk : Walk T k) (draws : List (Draw T k)) →
      ent 𝓤 (sep 𝓤 (sem 𝓛 (FinalItems T k walk (walk_leaves (side_of T k) (made T k) (shown T k plane.now) draws)))
      (sem 𝓛 (EndsBy T k plane walk)))
      (sem 𝓛 (EndsWith (param 0 T) plane (written T k (table_of plane.now) draws)))
  table_ends of_pixels walk draws =
      let second = walk_leaves (side_of T of_pixels) (made T of_pixels) (shown T of_pixels plane.now) draws in
      qed 𝓛 (‵ (FinalItems T of_pixels walk second) ∷ ‵ (EndsBy T of_pixels plane walk) ∷ []) ∵
      use2 𝓛 (‵ (EndsAs of_pixels second)) (ends_as of_pixels walk second tt) $ fpick ! (λ _. done !)
  table_ends k walk draws = ends_as k walk _ (rows_as_long (table_of plane.now) draws)
