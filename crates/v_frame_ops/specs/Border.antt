-- Padding that replicates the edge pixels of the picture.
use Rattle.std.specs.Prelude.{ℕ, ◌≡◌, ◌-◌, ◌<◌, min}
use Rattle.v_frame.specs.Prelude.{Raster, stride_of, alloc_height_of, pixel_at, table_of, whole_rows}

-- `nearest pad size k` is the column of the picture, which has `size` columns after `pad` columns
-- of padding, that is nearest to column `k` of the buffer. It works for rows in the same way.
abbrev pub nearest : ℕ → ℕ → ℕ → ℕ
nearest pad size k = min (k - pad) (size - 1)

-- Each entry of the whole buffer equals the visible pixel nearest to it.
abbrev pub IsPadded : {T : Type 0} → Raster T → Type 0
IsPadded plane =
    (x y : ℕ) → x < stride_of plane.geometry → y < alloc_height_of plane.geometry
    → pixel_at (whole_rows plane) x y
    ≡ pixel_at (table_of plane) (nearest plane.geometry.pad_left plane.geometry.width x)
    (nearest plane.geometry.pad_top plane.geometry.height y)
