-- Samples in gray: with 8 bits, or with 16 if they have a greater depth.
use Rattle.std.specs.Prelude.{ℕ, ◌==◌, map, if◌then◌else◌}
use Rattle.v_frame.specs.Prelude.{PixelForm, Table}
use Rattle.v_frame_convert.specs.Prelude.{at_depth}
use Rattle.v_frame_png.specs.Prelude.{big_endian}
use Rattle.v_frame_png.specs.declared.header.Samples.{Samples}
use Rattle.v_frame_png.specs.declared.header.Samples.TheVariants.{Gray8, Gray16}

-- The kind of samples in a file for a bit depth.
abbrev pub gray_samples : ℕ → Samples
gray_samples depth = if depth == 8 then Gray8 else Gray16

module _ {T : Type 0} (form : PixelForm T) (depth : ℕ) where
  -- The samples of a table, converted from their depth to `bits` bits.
  abbrev pub samples_at : ℕ → Table T → Table ℕ
  samples_at bits table = map (map (λ p. at_depth depth bits (form.value p))) table

  -- The bytes of the rows in a file: one byte for a sample of 8 bits, and two bytes for others.
  abbrev pub gray_rows : Table T → Table ℕ
  gray_rows table =
      if depth == 8 then samples_at 8 table else map big_endian (samples_at 16 table)
