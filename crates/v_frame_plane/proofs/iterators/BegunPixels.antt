-- An iterator over bytes consists of a pixel that was begun from the front, further pixels, and a pixel that was
-- begun from the back.
use Rattle.std.proofs.Common.{ℕ, Bool, true, false, ◌≡◌, ◌+◌, ◌*◌, ◌^◌, ◌<◌, ◌≤◌, List, [], ◌∷◌, ◌++◌, length, Option}
use Rattle.std.proofs.Common.{Some, None, is_some, refl, arith, append_assoc, length-append}
use Rattle.std.proofs.Math.Nat.{mul-le-mul_left, mul-le-mul_right}
use Rattle.std.proofs.lemmas.List.Concat.{flat_map-append}
use Rattle.std.specs.Int.{from_bool}
use Rattle.v_frame_raster.specs.Geometry.{Geometry, Fits}
use Rattle.v_frame_raster.specs.Pixel.{PixelForm, bytes_of, bytes_of_pixels}
use Rattle.v_frame_plane.specs.Cursor.{other_byte, bytes_ahead, PixelsAreBegun}
use Rattle.v_frame_raster.proofs.Plans.{origin_within}
use Rattle.v_frame_raster.proofs.PixelBytes.{length-bytes_from}

-- The number of bytes of a row fits into a `usize`.
pub row_bytes : (g : Geometry) (size : ℕ) → 0 < g.height → Fits g → size < 3 → g.width * size < 2 ^ 64
row_bytes g size high fits small =
    let few : size ≤ 2 = omega arith in
    omega (arith, origin_within g high, mul-le-mul_left g.width few)

pub one_at_most : (b : Bool) → from_bool b ≤ 1
one_at_most true = omega arith
one_at_most false = omega arith

module _ {T : Type 0} (form : PixelForm T) where
  pub length-bytes_of_pixels : (pixels : List T) → length (bytes_of_pixels form pixels) ≡ length pixels * form.size
  length-bytes_of_pixels [] = omega arith
  length-bytes_of_pixels (pixel ∷ pixels) =
      rw (
        length-append (bytes_of form.size (form.value pixel)),
        length-bytes_from 0 form.size (form.value pixel),
        length-bytes_of_pixels pixels,
      ) (omega arith)

  count_of_other : (i : ℕ) (begun : Option T) → length (other_byte form i begun) ≡ from_bool (is_some begun)
  count_of_other i None = refl
  count_of_other i (Some pixel) = refl

  pub count_of_bytes : (front : Option T) (pixels : List T) (back : Option T)
      → length (bytes_ahead form front pixels back) ≡ from_bool (is_some front) + length pixels * form.size + from_bool
      (is_some back)
  count_of_bytes front pixels back = simp (length-append, length-bytes_of_pixels, count_of_other) (omega arith)

  -- Pixels have at most two bytes.
  pub few_bytes : (pixels : List T) → form.size < 3 → 2 * length pixels < 2 ^ 63 → length pixels * form.size < 2 ^ 63
  few_bytes pixels small bound =
      let all : form.size * length pixels ≤ 2 * length pixels = mul-le-mul_right (length pixels) (omega arith) in
      omega arith

module _ {T : Type 0} (size : ℕ) where
  -- If fewer pixels remain, the number of their bytes fits too.
  pub few_left : (pixels rest : List T) → length rest ≤ length pixels → size * length pixels < 2 ^ 63 → size * length
      rest < 2 ^ 63
  few_left pixels rest less bound = omega (arith, mul-le-mul_left size less)

  pub none_left : (front back : Option T) (pixels : List T) → front ≡ None → pixels ≡ [] → back ≡ None → PixelsAreBegun
      size front pixels back
  none_left front back pixels f e b = rw (f, e, b) record { low_drawn = tt; high_drawn = tt; bound = omega arith }

-- Rules for calls that take a byte.
pub ruleset bytes_taken = (none_left, few_left, append_assoc, flat_map-append, length-append)
