-- An iteration from the front that replaces every pixel.
use Rattle.std.proofs.Common.{ℕ, zero, suc, ◌≡◌, List, [], ◌∷◌, length, map, drop, All, refl, sym, ◌∙◌, ap}
use Rattle.std.proofs.lemmas.List.{take-map, drop-map}
use Rattle.v_frame_raster.specs.Table.{Table, row_major, cut_rows}
use Rattle.v_frame.specs.Walk.{remaining_in_turn, side_of_pixel, pixel_written, front_draw, ChangesEachPixel}
use Rattle.v_frame.proofs.DrawnItems.{put_back_all}
use Rattle.v_frame.specs.DrawnItems.{put_back_in_turn}
use Rattle.v_frame_raster.proofs.tables.CutRows.{cut_again}

module _ {T : Type 0} where
  cut-map : {U : Type 0} (change : T → U) (width height : ℕ) (pixels : List T) → cut_rows width height
      (map change pixels) ≡
      map (map change) (cut_rows width height pixels)
  cut-map change width zero pixels = refl
  cut-map change width (suc height) pixels = rw (take-map, drop-map, cut-map change width height (drop width pixels))

  -- Each pixel is the first of the remaining pixels.
  all_replaced : (change : T → T) (pixels : List T) → let draws = map (λ pixel. front_draw (change pixel)) pixels in
      put_back_in_turn side_of_pixel pixel_written pixels draws (remaining_in_turn pixels (map side_of_pixel draws)) ≡
      map change pixels
  all_replaced change [] = refl
  all_replaced change (pixel ∷ pixels) = ap (λ rest. change pixel ∷ rest) (all_replaced change pixels)

  pub changes_each_pixel : (rows : Table T) (width : ℕ) → All (λ row. length row ≡ width) rows → ChangesEachPixel rows
  changes_each_pixel rows width wide = λ change.
      let draws = map (λ pixel. front_draw (change pixel)) (row_major rows) in
      let leaves = sym (put_back_all side_of_pixel pixel_written (row_major rows) draws) ∙ all_replaced change
      (row_major rows) in
      rw (leaves, cut-map change, cut_again width rows rows refl wide)
