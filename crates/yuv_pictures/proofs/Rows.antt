-- One row of a picture is itself a picture, and has the colors of the row.
use Rattle.std.proofs.Common.{ℕ, zero, suc, ◌≡◌, ◌≤◌, List, [], ◌∷◌, length, take, flat_map, Some, slice_get, sym, ap, ◌∙◌, arith, take_all}
use Rattle.v_frame_raster.specs.Table.{Table, rectangle}
use Rattle.v_frame_raster.specs.StridedRows.{strided_rows}
use Rattle.v_frame_rgb.specs.Colors.{color_rows_by, colors_by}
use Rattle.v_frame_rgb.specs.declared.color.Color.{Color}
use Rattle.v_frame_rgb.proofs.ColorLemmas.{slice_get-color_rows_by}

pub one_row : {T : Type 0} (w k : ℕ) (rows : Table T) (row : List T) → slice_get rows k ≡ Some row → length row ≡ w
    → rectangle 0 k w 1 rows ≡ row ∷ []
one_row w k [] row is wide = absurd (cc)
one_row w zero (first ∷ rows) row is wide =
    let e : first ≡ row = cc in
    let long : length first ≤ w = omega (arith, wide, ap length e) in
    ap (λ r. r ∷ []) (take_all w first long ∙ e)
one_row w (suc k) (first ∷ rows) row is wide = one_row w k rows row is wide

module _ {T : Type 0} (color : T → T → T → Color) (bytes_of : Color → List ℕ) (size : ℕ) (line : List ℕ)
    (w k : ℕ) where
  pub one_line : (y u v : Table T) (ys us vs : List T)
      → slice_get y k ≡ Some ys → slice_get u k ≡ Some us → slice_get v k ≡ Some vs
      → length ys ≡ w → length us ≡ w → length vs ≡ w → length line ≡ size
      → strided_rows size 1 size line
      ≡ color_rows_by color bytes_of (rectangle 0 k w 1 y) (rectangle 0 k w 1 u) (rectangle 0 k w 1 v)
      → slice_get (color_rows_by color bytes_of y u v) k ≡ Some line
  one_line y u v ys us vs is is1 is2 wide wide1 wide2 long made =
      let made1 = rw (one_row w k y ys is wide, one_row w k u us is1 wide1, one_row w k v vs is2 wide2) at made in
      let whole : take size line ≡ line = take_all size line (omega (arith, long)) in
      let there : line ∷ [] ≡ strided_rows size 1 size line =
      ap (λ l. l ∷ []) (sym whole ∙ ap (take size) (sym whole)) in
      let both : line ∷ [] ≡ flat_map bytes_of (colors_by color ys us vs) ∷ [] = there ∙ made1 in
      let same : line ≡ flat_map bytes_of (colors_by color ys us vs) = cc in
      slice_get-color_rows_by color bytes_of y u v k ys us vs is is1 is2 ∙ ap Some (sym same)
