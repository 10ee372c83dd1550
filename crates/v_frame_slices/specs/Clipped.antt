-- A picture that is copied to any place of another picture. Pixels outside the other picture are
-- left out.
use Rattle.std.specs.Prelude.{ℕ, ℤ, ◌≡◌, ◌<◌}
use Rattle.v_frame.specs.Prelude.{Table, pixel_at}
use Rattle.v_frame_ops.specs.Prelude.{LiesOn}
use Rattle.v_frame_slices.specs.declared.layout.Rows.{Rows}

-- The first pixel of the source is put at column `x` of row `y`, either of which may be negative.
-- Each pixel of the source that is inside the picture replaces the pixel there, and all other
-- pixels are unchanged.
pub record IsPutOn {T : Type 0} (x y : ℤ) (rows source_rows : Rows)
    (source old new : Table T) : Type 0 where
  pub inside : (i j k l : ℕ) → i < source_rows.width → j < source_rows.height → k < rows.width
      → l < rows.height → LiesOn x y i j k l → pixel_at new k l ≡ pixel_at source i j
  pub beside : (k l : ℕ) → k < rows.width → l < rows.height
      → ((i j : ℕ) → i < source_rows.width → j < source_rows.height → ¬ (LiesOn x y i j k l))
      → pixel_at new k l ≡ pixel_at old k l
