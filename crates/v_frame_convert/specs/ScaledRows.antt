-- Rows of another width, computed from two rows.
use Rattle.std.specs.Prelude.{ℕ, ◌≡◌, ◌+◌, ◌-◌, ◌*◌, ◌/◌, ◌<◌, List, ◌++◌, min, Some, slice_get}
use Rattle.v_frame.specs.Prelude.{PixelForm}
use Rattle.v_frame_convert.specs.Depth.{at_depth}
use Rattle.v_frame_convert.specs.Scale.{places, values_at, mean_of}
use Rattle.v_frame_convert.specs.declared.scale.Scale.{Scale}
use Rattle.v_frame_convert.specs.declared.scale.Scale.TheVariants.{Quarter, Half, Same, Double}
use Rattle.v_frame_convert.specs.declared.scale.Scale.TheVariants.{Quadruple}

module _ {S : Type 0} (form : PixelForm S) where
  -- The mean of the pixels of two rows that column `x` of another width covers.
  abbrev pub mean_in_two_rows : Scale → List S → List S → ℕ → ℕ
  mean_in_two_rows scale top bottom x =
      mean_of (values_at form (places scale x) top ++ values_at form (places scale x) bottom)

  -- The first `count` pixels of `row` are the means of two rows, at another bit depth.
  abbrev pub HoldsMeans : {T : Type 0} → PixelForm T → ℕ → ℕ → Scale → List S → List S → ℕ → List T
      → Type 0
  HoldsMeans other from to scale top bottom count row =
      (x : ℕ) → x < count → slice_get row x
      ≡ Some (other.pixel_of (at_depth from to (mean_in_two_rows scale top bottom x)))

-- The two rows of the source whose mean is row `y` of the target. They are the same row unless the
-- number of rows is halved.
abbrev pub line_pair : Scale → ℕ → ℕ → ℕ × ℕ
line_pair Half y count = (2 * y, min (2 * y + 1) (count - 1))
line_pair Double y count = (y / 2, y / 2)
line_pair Quadruple y count = (y / 4, y / 4)
line_pair Same y count = (y, y)
line_pair Quarter y count = (4 * y, 4 * y)
