-- Columns and rows that are counted from the first visible pixel, and may therefore be negative.
use Rattle.std.proofs.Common.{ℕ, ℤ, pos, negsuc, ◌≡◌, ◌+◌, ◌*◌, ◌<◌, ◌≤◌, ◌≤ℤ◌, Option, Some, None, SomeIff, FitsSigned, to_z, of_z, w64, arith}
use Rattle.std.specs.Prelude.{unsigned_abs}
use Rattle.std.specs.Int.{FitsUnsigned}
use Rattle.std.proofs.lemmas.Int.{ints}
use Rattle.std.proofs.Math.Nat.{mul-le-mul_left}
use Rattle.v_frame_raster.specs.Geometry.{Geometry, alloc_height_of, buffer_column, buffer_row, stride_of, usize_max}
use Rattle.v_frame_raster.specs.Geometry.{Fits, IsGeometry, IsInBuffer}

fits_within : (z : ℤ) → pos 0 ≤ℤ z → unsigned_abs z ≤ usize_max → FitsUnsigned w64 z
fits_within z from small = (from, omega (arith, ints, from, small))

-- The code reads a signed number without changing it.
pub as_it_is : (z : ℤ) → FitsSigned w64 z → to_z w64 (of_z w64 z) ≡ z
as_it_is z fits = omega (arith, ints)

-- The columns and rows of a rectangle in the buffer fit into their type.
pub column_fits : (g : Geometry) (x y : ℤ) (width height : ℕ) → IsGeometry g → IsInBuffer g x y width height
    → FitsUnsigned w64 (buffer_column g x)
column_fits g x y width height is inside =
    fits_within (buffer_column g x) inside.left (omega (arith, inside.inside.across, is.stride_fits))

pub row_fits : (g : Geometry) (x y : ℤ) (width height : ℕ) → IsGeometry g → Fits g → IsInBuffer g x y width height
    → FitsUnsigned w64 (buffer_row g y)
row_fits g x y width height is fits inside =
    let some : 1 ≤ stride_of g = omega (arith, is.wide) in
    fits_within (buffer_row g y) inside.above
    (omega (arith, inside.inside.down, mul-le-mul_left (alloc_height_of g) some, fits))

-- An option that is `Some` under one condition is `Some` under each equivalent condition.
pub some_if : {X P Q : Type 0} (found : Option X) (value : X) → (P → Q) → (Q → P) → SomeIff found P value
    → SomeIff found Q value
some_if None value to from none = λ q. none (from q)
some_if (Some x) value to from here = (to here.0, here.1)
