-- Pictures that calls calculate from other pictures, or change in place, and their borders.
use Rattle.std.specs.Prelude.{ℕ, ℤ, ◌≡◌, ◌+◌, ◌*◌, ◌<◌, Bool, true, ◌&&◌, ◌≢◌, List, drop, length, map, nat_le, nat_lt, replicate, slice_get, take, Some}
use Rattle.v_frame.specs.Prelude.{alloc_size_of, bytes_of_pixels, halved, pixel_at, raster, table_of, two_bytes, PixelForm, Table}
use Rattle.v_frame_slices.specs.Calls.{Makes, Shows, Writes}
use Rattle.v_frame_slices.specs.Clipped.{IsPutOn}
use Rattle.v_frame_slices.specs.Layout.{fits, geometry_in, is_bordered, picture}
use Rattle.v_frame_slices.specs.Numbers.{change_by, component_by, is_component, is_depth, is_turn, subsampled_size, turn_by, turned_size}
use Rattle.v_frame_slices.specs.Sizes.{have_areas, is_counted}
use Rattle.v_frame_slices.specs.Status.{encoded_size, same_size, status_of_one, status_of_three, times_size}
use Rattle.v_frame_slices.specs.declared.layout.Bordered.{Bordered}
use Rattle.v_frame_slices.specs.declared.layout.Rows.{Rows}
use Rattle.v_frame_convert.specs.Prelude.{converted, pixel_at_depth, pixel_by, scaled, upscaled}
use Rattle.v_frame_convert.specs.declared.scale.Scale.{Scale}
use Rattle.v_frame_ops.specs.Prelude.{blended, combined, difference_of, IsPadded}
use Rattle.v_frame_raster.specs.Pixel.{pixels_of_bytes}
use Rattle.v_frame_resize.specs.Prelude.{area_mean, nearest}
use Rattle.v_frame_turn.specs.Prelude.{turned}

-- Every pixel is `pixel`.
abbrev pub IsFilled : {T : Type 0} → Rows → T → List T → List T → ℕ → Type 0
IsFilled rows pixel old new status =
    Writes (status_of_one (fits rows (length old)))
    (picture rows new ≡ replicate rows.height (replicate rows.width pixel)) rows old new status

module _ {T : Type 0} (rows source_rows : Rows) (source old new : List T) (status : ℕ) where
  abbrev makes : Bool → Bool → Type 0 → Type 0
  makes known sizes meaning = Makes rows source_rows source old new status known sizes meaning

  abbrev shows : Bool → Bool → Table T → Type 0
  shows known sizes table = Shows rows source_rows source old new status known sizes table

  abbrev pub IsCopied : Type 0
  IsCopied = shows true (same_size rows source_rows) (picture source_rows source)

  -- The source is put at column `x` of row `y`.
  abbrev pub IsCopiedTo : ℤ → ℤ → Type 0
  IsCopiedTo x y = makes true true (IsPutOn x y rows source_rows (picture source_rows source)
      (picture rows old) (picture rows new))

  abbrev pub IsTurned : ℕ → Type 0
  IsTurned number =
      shows (is_turn number) (turned_size (turn_by number) rows source_rows)
      (turned (turn_by number) (picture source_rows source))

  abbrev pub IsUpscaled : ℕ → ℕ → Type 0
  IsUpscaled ratio_x ratio_y =
      shows (nat_lt 0 ratio_x && nat_lt 0 ratio_y)
      (subsampled_size ratio_x ratio_y rows source_rows)
      (upscaled ratio_x ratio_y rows.width rows.height (picture source_rows source))

  abbrev pub IsResizedByNearest : Type 0
  IsResizedByNearest =
      makes true (is_counted rows && is_counted source_rows)
      ((x y : ℕ) → x < rows.width → y < rows.height → pixel_at (picture rows new) x y
      ≡ pixel_at (picture source_rows source) (nearest source_rows.width rows.width x)
      (nearest source_rows.height rows.height y))

  module _ (form : PixelForm T) where
    abbrev pub IsResizedByArea : Type 0
    IsResizedByArea =
        makes true (have_areas rows source_rows)
        ((x y : ℕ) → x < rows.width → y < rows.height → pixel_at (picture rows new) x y
        ≡ Some (form.pixel_of (area_mean form
        (picture source_rows source) rows.width rows.height x y)))

    -- Each row is calculated from two rows of the source, which is exactly twice as wide and twice
    -- as high.
    abbrev pub IsHalved : Type 0
    IsHalved =
        makes true (times_size 2 rows source_rows)
        ((y : ℕ) (top bottom : List T) → slice_get (picture source_rows source) (2 * y) ≡ Some top
        → slice_get (picture source_rows source) (2 * y + 1) ≡ Some bottom
        → slice_get (picture rows new) y ≡ Some (halved form top bottom))

    -- Each pixel is the mean of a number of columns and rows of the source.
    abbrev pub IsScaled : ℕ → ℕ → Scale → Scale → Type 0
    IsScaled ratio_x ratio_y across down =
        shows true (subsampled_size ratio_x ratio_y source_rows rows)
        (scaled form form.pixel_of across down rows.width rows.height (picture source_rows source))

    -- The pictures are blended. The weight of the source is given in 256ths.
    abbrev pub IsBlended : ℕ → Type 0
    IsBlended weight =
        shows (nat_le weight 256) (same_size rows source_rows)
        (combined (combined (blended form 256 weight)) (picture rows old)
        (picture source_rows source))

    module _ (bytes : ℕ) where
      abbrev pub IsDifference : ℕ → ℕ → Type 0
      IsDifference gain depth =
          shows (is_depth bytes depth) (same_size rows source_rows)
          (combined (combined (difference_of form gain depth)) (picture rows old)
          (picture source_rows source))

      -- The pixels are converted from limited range to full range, or back.
      abbrev pub IsInRange : Bool → ℕ → ℕ → Type 0
      IsInRange full component depth =
          shows (is_component component && is_depth bytes depth) (same_size rows source_rows)
          (converted (converted (pixel_by form (change_by full (component_by component) depth)))
          (picture source_rows source))

    -- The pictures are blended. A mask gives the weight of the source in 255ths.
    abbrev pub IsBlendedByMask : Rows → List ℕ → Type 0
    IsBlendedByMask mask_rows mask =
        Writes (status_of_three (fits rows (length old)) (fits source_rows (length source))
        (fits mask_rows (length mask))
        (same_size rows source_rows && same_size rows mask_rows))
        ((x y : ℕ) (p q : T) (weight : ℕ) → pixel_at (picture rows old) x y ≡ Some p
        → pixel_at (picture source_rows source) x y ≡ Some q → pixel_at (picture mask_rows mask) x y
        ≡ Some weight
        → pixel_at (picture rows new) x y ≡ Some (blended form 255 weight p q)) rows old new status

module _ {S T : Type 0} (rows source_rows : Rows) (source : List S) (old new : List T)
    (status : ℕ) where
  -- The pixels are converted to another bit depth, with the given number of bytes.
  abbrev pub IsAtDepth : PixelForm S → PixelForm T → ℕ → ℕ → ℕ → ℕ → Type 0
  IsAtDepth form other bytes other_bytes from to =
      Shows rows source_rows source old new status (is_depth bytes from && is_depth other_bytes to)
      (same_size rows source_rows)
      (converted (converted (pixel_at_depth form other from to)) (picture source_rows source))

module _ (rows source_rows : Rows) (source old new : List ℕ) (status : ℕ) where
  abbrev pub IsDecoded : Type 0
  IsDecoded =
      Shows rows source_rows source old new status true
      (encoded_size two_bytes.size rows source_rows)
      (map (pixels_of_bytes two_bytes rows.width) (picture source_rows source))

  abbrev pub IsEncoded : Type 0
  IsEncoded =
      Shows rows source_rows source old new status true
      (encoded_size two_bytes.size source_rows rows)
      (map (bytes_of_pixels two_bytes) (picture source_rows source))

-- Each entry of the border is a copy of the nearest pixel. The picture and all entries after the
-- border are unchanged.
pub record PadsBorder {T : Type 0} (layout : Bordered) (old new : List T)
    (status : ℕ) : Type 0 where
  pub answer : status ≡ status_of_one (is_bordered layout (length old))
  pub padded : status ≡ 0 → IsPadded (raster (geometry_in layout)
      (take (alloc_size_of (geometry_in layout)) new))
  pub shown : status ≡ 0 → table_of (raster (geometry_in layout)
      (take (alloc_size_of (geometry_in layout)) new))
      ≡ table_of (raster (geometry_in layout) (take (alloc_size_of (geometry_in layout)) old))
  pub rest : drop (alloc_size_of (geometry_in layout)) new
      ≡ drop (alloc_size_of (geometry_in layout)) old
  pub refused : status ≢ 0 → new ≡ old
