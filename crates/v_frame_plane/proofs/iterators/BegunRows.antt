-- An iterator over pixels consists of a row that was begun from the front, further rows, and a row that was begun
-- from the back.
use Rattle.std.proofs.Common.{All, Some, ◌≡◌, ◌+◌, ◌*◌, ◌^◌, ◌<◌, ◌≤◌, List, [], ◌∷◌, ◌++◌, length, refl, ap, arith}
use Rattle.std.proofs.Common.{append-nil, append_assoc, length-append}
use Rattle.std.proofs.lemmas.List.{nil_from_length}
use Rattle.std.proofs.lemmas.List.Elements.{All-nil, All-head, All-tail, All-pop, All-weaker}
use Rattle.v_frame_raster.specs.Raster.{Raster, IsWhole, table_of}
use Rattle.v_frame_raster.specs.Table.{row_major}
use Rattle.v_frame_plane.specs.Cursor.{PixelsAreCountable}
use Rattle.v_frame_raster.proofs.Plans.{visible_within}
use Rattle.v_frame_raster.proofs.tables.CutRows.{row_major-append}
use Rattle.v_frame_raster.proofs.tables.Pictures.{length-shown}
use Rattle.v_frame_raster.proofs.tables.Places.{rows_are_wide}
use Rattle.v_frame_plane.proofs.iterators.Cursors.{pixels_of_rows}

module _ {T : Type 0} where
  abbrev IsFull : List T → Type 0
  IsFull row = 0 < length row

  row_major-push : (rows : List (List T)) (row : List T) → row_major (rows ++ row ∷ []) ≡ row_major rows ++ row
  row_major-push rows row = simp (row_major-append, append-nil)

  -- One of the rows was taken, and these rows remain.
  pub record IsDrawn (rows : List (List T)) (row : List T) (rest : List (List T)) : Type 0 where
    pub full : All IsFull rows → IsFull row × All IsFull rest
    pub count : length (row_major rows) ≡ length row + length (row_major rest)

  pub first_drawn : {row : List T} {rows rest : List (List T)} → rows ≡ row ∷ rest → IsDrawn rows row rest
  first_drawn {row} {rows} {rest} e = rw e record {
    full = λ full. (All-head IsFull row rest full, All-tail IsFull row rest full);
    count = length-append row (row_major rest);
  }

  pub last_drawn : {row : List T} {rows rest : List (List T)} → rows ≡ rest ++ row ∷ [] → IsDrawn rows row rest
  last_drawn {row} {rows} {rest} e = record {
    full = λ full. let each = All-pop IsFull rows rest (Some row) e full in (each.1, each.0);
    count = rw (e, row_major-push rest row) (omega (arith, length-append (row_major rest) row));
  }

  -- Taking a row keeps the pixels countable. So does a call for which no row remains.
  pub drawn_countable : {front back row : List T} {rows rest : List (List T)} → PixelsAreCountable front rows back →
      IsDrawn rows row rest →
      (begun left : List T) → length begun + length left ≤ length front + length row + length back → PixelsAreCountable
      begun rest left
  drawn_countable before drawn begun left few =
      record { full = (drawn.full before.full).1; bound = omega (arith, before.bound, drawn.count, few) }

  pub none_countable : {front back : List T} {rows rest : List (List T)} → PixelsAreCountable front rows back → rest ≡
      [] → (begun left : List T) →
      length begun + length left ≤ length front + length back → PixelsAreCountable begun rest left
  none_countable before none begun left few = rw none record
      { full = All-nil IsFull; bound = omega (arith, before.bound, few) }

  -- Beginning the last row does not change the remaining pixels.
  pub last_row_left : (front back row : List T) (rows rest : List (List T)) → length back ≡ 0 → rows ≡ rest ++ row ∷ []
      →
      front ++ (row_major rest ++ row) ≡ front ++ (row_major rows ++ back)
  last_row_left front back row rows rest none e = rw
      (nil_from_length back none, e, append-nil, row_major-push rest row) refl

  -- All rows of a plane can be iterated over.
  pub visible_countable : (p : Raster T) → 0 < p.geometry.width → IsWhole p.geometry p.buffer → PixelsAreCountable []
      (table_of p) []
  visible_countable p wide is =
      let g = p.geometry in
      let rows = rows_are_wide p is.whole in
      record {
        full = All-weaker (λ row. length row ≡ g.width) IsFull (λ row e. omega arith) (table_of p) rows;
        bound = omega (
          arith,
          is.fits,
          visible_within g,
          pixels_of_rows g.width (table_of p) rows,
          ap
              (λ n. n * g.width) (length-shown p),
        );
      }

  -- The number of pixels that a plane shows is its visible width times its visible height.
  pub visible_pixels : (p : Raster T) → IsWhole p.geometry p.buffer → length (row_major (table_of p)) ≡
      p.geometry.width * p.geometry.height
  visible_pixels p is =
      omega (
        arith,
        pixels_of_rows p.geometry.width (table_of p) (rows_are_wide p is.whole),
        ap
            (λ n. n * p.geometry.width) (length-shown p),
      )

  -- The number of their bytes fits, because each pixel has at most two.
  pub visible_few : (p : Raster T) → IsWhole p.geometry p.buffer → 2 * length (row_major (table_of p)) < 2 ^ 63
  visible_few p is = omega (arith, is.fits, visible_within p.geometry, visible_pixels p is)
