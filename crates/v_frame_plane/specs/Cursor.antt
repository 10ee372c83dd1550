-- The state of the iterators over a plane: rows of one width that lie ahead in a slice, and rows
-- and pixels that were begun.
use Rattle.std.specs.Prelude.{All, ℕ, zero, suc, ◌≡◌, ◌+◌, ◌*◌, ◌^◌, ◌<◌, ◌≤◌, List, [], ◌∷◌, ◌++◌, length, take, drop}
use Rattle.std.specs.Prelude.{Option, Some, None, IfSome}
use Rattle.v_frame_raster.specs.Pixel.{PixelForm, byte_of, bytes_of_pixels}
use Rattle.v_frame_raster.specs.Table.{row_major}

module _ {T : Type 0} where
  -- A number of rows in a slice. The first row begins after `start` entries, and each further row
  -- begins `gap` entries after the end of the row before it.
  abbrev pub rows_ahead : ℕ → ℕ → ℕ → ℕ → List T → List (List T)
  rows_ahead start width gap zero entries = []
  rows_ahead start width gap (suc count) entries =
      take width (drop start entries)
      ∷ rows_ahead gap width gap count (drop width (drop start entries))

-- The rows are not empty, the width plus the gap fits into a `usize`, and all rows lie within
-- `entries` entries.
pub record RowsAreWithin (start width gap count entries : ℕ) : Type 0 where
  pub wide : 0 < width
  pub stride : width + gap < 2 ^ 64
  pub within : 0 < count → start + count * (width + gap) ≤ entries + gap

-- No row that was not begun is empty. The pixels of these rows and of the two begun rows are fewer
-- than 2 ^ 63.
pub record PixelsAreCountable {T : Type 0} (front : List T) (rows : List (List T))
    (back : List T) : Type 0 where
  pub full : All (λ row. 0 < length row) rows
  pub bound : length front + length (row_major rows) + length back < 2 ^ 63

module _ {T : Type 0} (form : PixelForm T) where
  -- The other byte of a two-byte pixel that has yielded one byte.
  abbrev pub other_byte : ℕ → Option T → List ℕ
  other_byte i None = []
  other_byte i (Some pixel) = byte_of (form.value pixel) i ∷ []

  -- The high byte of the pixel that was begun from the front, the bytes of the pixels that were not
  -- begun, and the low byte of the pixel that was begun from the back.
  abbrev pub bytes_ahead : Option T → List T → Option T → List ℕ
  bytes_ahead front pixels back =
      other_byte 1 front ++ (bytes_of_pixels form pixels ++ other_byte 0 back)

-- Only a pixel of two bytes can be begun. The bytes of the pixels that were not begun are fewer
-- than 2 ^ 63.
pub record PixelsAreBegun {T : Type 0} (size : ℕ) (front : Option T) (pixels : List T)
    (back : Option T) : Type 0 where
  pub low_drawn : IfSome front (λ pixel. size ≡ 2)
  pub high_drawn : IfSome back (λ pixel. size ≡ 2)
  pub bound : size * length pixels < 2 ^ 63
