-- Rows without gaps make up the list that they are cut from, and the bytes of the rows, joined, are those of the
-- table.
use Rattle.std.proofs.Common.{ℕ, zero, suc, ◌≡◌, ◌-◌, ◌*◌, ◌<◌, List, [], ◌∷◌, length, map, drop, refl, arith, mul-suc}
use Rattle.std.proofs.lemmas.Grind.{flat_map-append}
use Rattle.std.proofs.lemmas.List.{take-take}
use Rattle.v_frame_raster.specs.Pixel.{PixelForm, bytes_of, bytes_of_pixels, byte_list}
use Rattle.v_frame_raster.specs.Table.{Table, row_major, cut_rows}
use Rattle.v_frame_raster.specs.StridedRows.{strided_rows, RowsFit}
use Rattle.v_frame_raster.proofs.tables.CutRows.{row_major-cut_rows}

module _ {T : Type 0} where
  fronts_are_pieces : (width height : ℕ) (xs : List T) → strided_rows width height width xs ≡ cut_rows width height xs
  fronts_are_pieces width zero xs = refl
  fronts_are_pieces width (suc height) xs =
      rw (take-take width width xs (omega arith), fronts_are_pieces width height (drop width xs))

  pub packed_rows : (width height : ℕ) (xs : List T) → length xs ≡ width * height
      → row_major (strided_rows width height width xs) ≡ xs
  packed_rows width height xs long = rw (fronts_are_pieces width height xs) (row_major-cut_rows width height xs long)

  pub joined_bytes : (form : PixelForm T) (rows : Table T)
      → row_major (map (bytes_of_pixels form) rows) ≡ byte_list form rows
  joined_bytes form [] = refl
  joined_bytes form (row ∷ rows) =
      let one : T → List ℕ = λ pixel. bytes_of form.size (form.value pixel) in
      rw (joined_bytes form rows, flat_map-append one row (row_major rows)) refl

-- This number of entries is exactly enough for them.
pub packed_fit : (width height : ℕ) → 0 < width → 0 < height → RowsFit width height width (width * height)
packed_fit width zero wide high = absurd (omega (arith, high))
packed_fit width (suc others) wide high =
    let less : suc others - 1 ≡ others = omega arith in
    record {
      wide = wide;
      high = high;
      apart = omega arith;
      within = rw less (omega (arith, mul-suc width others));
    }
