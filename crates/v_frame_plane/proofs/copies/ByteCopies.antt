-- The checks of a copy of bytes: first its stride, then the required length, which may not fit into a `usize`.
use Rattle.std.proofs.Common.{ℕ, ◌≡◌, ◌*◌, ◌^◌, ◌-◌, ◌<◌, ◌≤◌, true, false, not, nat_eq, eqb, min, List, length, Option}
use Rattle.std.proofs.Common.{Some, None, Ok, Err, unwrap_or, SomeIff, refl, sym, ◌∙◌, arith}
use Rattle.std.proofs.lemmas.Bool.{lt-ltb, le-ltb}
use Rattle.std.proofs.lemmas.Bool.Decides.{nat_tests}
use Rattle.std.specs.Option.{option_eq}
use Rattle.v_frame_raster.specs.Geometry.{alloc_size_of, usize_max}
use Rattle.v_frame_raster.specs.Pixel.{PixelForm}
use Rattle.v_frame_raster.specs.Raster.{Raster, table_of}
use Rattle.v_frame_raster.specs.Table.{width_of, height_of}
use Rattle.v_frame_raster.specs.StridedRows.{strided_table}
use Rattle.v_frame_plane.specs.Copy.{strided_copy}
use Rattle.v_frame_plane.specs.declared.error.CopyError.TheVariants.{DataLength, InvalidStride}
use Rattle.v_frame_plane.proofs.copies.ByteLaws.{accepted_copy}
use Rattle.v_frame_raster.proofs.tables.Sizes.{width_of_shown, height_of_shown}

-- A required product, as the code computes it, and the length that was found.
pub asked_is_found : (asked : Option ℕ) (product found : ℕ) → SomeIff asked (product < 2 ^ 64) product → not
    (option_eq nat_eq asked (Some found)) ≡ false →
    found ≡ product
asked_is_found None product found counted e = cc
asked_is_found (Some n) product found counted e = grind (arith, nat_tests)

pub asked_is_other : (asked : Option ℕ) (product found : ℕ) → SomeIff asked (product < 2 ^ 64) product → found < 2 ^ 64
    →
    not (option_eq nat_eq asked (Some found)) ≡ true → found ≡ product → ⊥
asked_is_other None product found counted h e same = counted (omega arith)
asked_is_other (Some n) product found counted h e same = grind (arith, nat_tests)

pub asked_is_told : (asked : Option ℕ) (product : ℕ) → SomeIff asked (product < 2 ^ 64) product → unwrap_or asked
    (2 ^ 64 - 1) ≡ min product usize_max
asked_is_told None product counted = let h : (product < 2 ^ 64 → ⊥) = counted in omega arith
asked_is_told (Some n) product counted = omega arith

-- The sizes of the plane, as the code reads them, are those of its table.
module _ {T : Type 0} (form : PixelForm T) (p : Raster T) (source : List ℕ) (stride width height : ℕ)
    (some_row : 0 < p.geometry.height) (whole :
    length p.buffer ≡ alloc_size_of p.geometry) (w : width ≡ p.geometry.width) (h : height ≡ p.geometry.height) where
  wide : width_of (table_of p) ≡ width
  wide = width_of_shown p some_row whole ∙ sym w

  high : height_of (table_of p) ≡ height
  high = height_of_shown p ∙ sym h

  -- The stride is less than the size of a row.
  pub refused_by_stride : stride < width * form.size → strided_copy form (table_of p) source stride ≡
      record { answer = Err (InvalidStride stride width); table = table_of p }
  refused_by_stride below = rw (wide, lt-ltb stride (width * form.size) below) refl

  module _ (fits : width * form.size ≤ stride) where
    -- The length of the source is wrong.
    pub refused_by_length : (length source ≡ stride * height → ⊥) → strided_copy form (table_of p) source stride ≡
        record { answer = Err (DataLength (min (stride * height) usize_max) (length source)); table = table_of p }
    refused_by_length other =
        let no : eqb (length source) (stride * height) ≡ false = grind (arith, nat_tests) in
        rw (wide, high, le-ltb stride (width * form.size) fits, no) refl

    pub accepted : length source ≡ stride * height → strided_copy form (table_of p) source stride ≡
        record { answer = Ok tt; table = strided_table form width height stride source }
    accepted same = accepted_copy form (table_of p) source stride width height wide high fits same
