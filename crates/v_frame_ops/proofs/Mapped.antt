-- If each item of a list is the result of a function for the old item, the list is `map` of this function. The same
-- holds for the rows of a table and for its pixels.
use Rattle.std.proofs.Common.{ℕ, suc, ◌≡◌, List, [], ◌∷◌, map, Option, Some, None, option_and_then, slice_get, refl, ap}
use Rattle.std.proofs.Common.{◌∙◌, ◌<◌, All, length, arith}
use Rattle.std.proofs.lemmas.Option.{slice_get_within, get_or_from_slice_get}
use Rattle.v_frame_raster.proofs.tables.Lists.{slice_get-map}
use Rattle.v_frame_raster.proofs.tables.ListItems.{slice_get-zip}
use Rattle.std.specs.List.{zip}
use Rattle.v_frame.specs.Prelude.{Table, pixel_at}
use Rattle.v_frame_ops.specs.Change.{combined, MapsPixels, CombinesPixels}
use Rattle.v_frame_ops.specs.Rows.{MapsItems, CombinesItems}

-- The row that contains a pixel of a table.
pub found_row : {T : Type 0} (x : ℕ) (p : T) (o : Option (List T)) → option_and_then (λ row. slice_get row x) o ≡ Some p
    → (row : List T) × (o ≡ Some row) × (slice_get row x ≡ Some p)
found_row x p None h = absurd (let no : None ≡ Some p = h in cc)
found_row x p (Some row) h = (row, refl, h)

-- The row and the column of a pixel of a table are inside its size.
pub pixel_within : {T : Type 0} (rows : Table T) (width x y : ℕ) (p : T) → All (λ row. length row ≡ width) rows
    → pixel_at rows x y ≡ Some p → (x < width) × (y < length rows)
pixel_within rows width x y p wide h =
    let row = found_row x p (slice_get rows y) h in
    let here = slice_get_within row.0 x p row.2 in
    let long = wide y row.0 (slice_get_within rows y row.0 row.1) in
    (omega (arith, ap length (get_or_from_slice_get rows y row.0 row.0 row.1)), slice_get_within rows y row.0 row.1)

-- The pixel of two combined tables at one position.
pub combined_pixel : {T : Type 0} (g : T → T → T) (old other : Table T) (x y : ℕ) (p q : T) → pixel_at old x y ≡ Some p
    → pixel_at other x y ≡ Some q → pixel_at (combined (combined g) old other) x y ≡ Some (g p q)
combined_pixel g old other x y p q h i =
    let row = found_row x p (slice_get old y) h in
    let beside = found_row x q (slice_get other y) i in
    ap (option_and_then (λ r. slice_get r x))
    (slice_get-map (λ pair. combined g pair.0 pair.1) (zip old other) y (row.0, beside.0)
    (slice_get-zip old other y row.0 beside.0 row.1 beside.1))
    ∙ slice_get-map (λ pair. g pair.0 pair.1) (zip row.0 beside.0) x (p, q)
    (slice_get-zip row.0 beside.0 x p q row.2 beside.2)

module _ {T : Type 0} (gives : T → T → Type 0) where
  pub maps_whole : (g : T → T) → ((p q : T) → gives p q → q ≡ g p) → (old new : List T) → MapsItems gives old new → new
      ≡ map g old
  maps_whole g is [] [] maps = refl
  maps_whole g is [] (q ∷ new) maps = absurd (omega (arith, maps.count))
  maps_whole g is (p ∷ old) [] maps = absurd (omega (arith, maps.count))
  maps_whole g is (p ∷ old) (q ∷ new) maps =
      let first = maps.at 0 p refl in
      let found : Some q ≡ Some first.0 = first.2 in
      let given : first.0 ≡ g p = is p first.0 first.1 in
      let rest : new ≡ map g old = maps_whole g is old new
      (record { count = omega (arith, maps.count); at = λ k item h. maps.at (suc k) item h }) in
      cc

  pub maps_pixels : (old new : Table T) → MapsItems (MapsItems gives) old new → MapsPixels gives old new
  maps_pixels old new maps = λ x y p h.
      let row = found_row x p (slice_get old y) h in
      let changed = maps.at y row.0 row.1 in
      let pixel = changed.1.at x p row.2 in
      (pixel.0, pixel.1, ap (option_and_then (λ r. slice_get r x)) changed.2 ∙ pixel.2)

module _ {T : Type 0} (gives : T → T → T → Type 0) where
  pub combines_whole : (g : T → T → T) → ((p q r : T) → gives p q r → r ≡ g p q) → (old other new : List T) →
      CombinesItems gives old other new
      → new ≡ map (λ pair. g pair.0 pair.1) (zip old other)
  combines_whole g is [] other [] maps = refl
  combines_whole g is [] other (r ∷ new) maps = absurd (omega (arith, maps.count))
  combines_whole g is (p ∷ old) other [] maps = absurd (omega (arith, maps.count))
  combines_whole g is (p ∷ old) [] (r ∷ new) maps = absurd (omega (arith, maps.as_many))
  combines_whole g is (p ∷ old) (q ∷ other) (r ∷ new) maps =
      let first = maps.at 0 p q refl refl in
      let found : Some r ≡ Some first.0 = first.2 in
      let given : first.0 ≡ g p q = is p q first.0 first.1 in
      let rest = combines_whole g is old other new (record {
        count = omega (arith, maps.count);
        as_many = omega (arith, maps.as_many);
        at =
            λ k a b h i. maps.at (suc k) a b h i;
      }) in
      cc

  pub combines_pixels : (old other new : Table T) → CombinesItems (CombinesItems gives) old other new → CombinesPixels
      gives old other new
  combines_pixels old other new maps = λ x y p q h i.
      let row = found_row x p (slice_get old y) h in
      let beside = found_row x q (slice_get other y) i in
      let made = maps.at y row.0 beside.0 row.1 beside.1 in
      let pixel = made.1.at x p q row.2 beside.2 in
      (pixel.0, pixel.1, ap (option_and_then (λ r. slice_get r x)) made.2 ∙ pixel.2)
