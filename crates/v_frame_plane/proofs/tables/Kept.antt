-- Writes into a buffer keep its length, so it stays whole.
use Rattle.std.proofs.Common.{ℕ, List, length, slice_set, ◌∙◌}
use Rattle.std.proofs.lemmas.List.{length-set}
use Rattle.std.specs.List.{refill}
use Rattle.v_frame_raster.specs.Geometry.{Geometry}
use Rattle.v_frame_buffer.specs.Part.{with_part}
use Rattle.v_frame_buffer.proofs.Parts.{length-refilled, length-with_part}
use Rattle.v_frame_raster.specs.Raster.{IsWhole}

module _ {T : Type 0} where
  pub whole_refilled : (g : Geometry) (xs ys : List T) → IsWhole g xs → IsWhole g (refill (length xs) xs ys)
  whole_refilled g xs ys is = record { fits = is.fits; whole = length-refilled xs ys ∙ is.whole }

  pub whole_with_part : (g : Geometry) (xs : List T) (start : ℕ) (ys : List T) → IsWhole g xs → IsWhole g
      (with_part xs start ys)
  whole_with_part g xs start ys is = record { fits = is.fits; whole = length-with_part xs start ys ∙ is.whole }

  pub whole_with_entry : (g : Geometry) (xs : List T) (place : ℕ) (x : T) → IsWhole g xs → IsWhole g
      (slice_set xs place x)
  whole_with_entry g xs place x is = record { fits = is.fits; whole = length-set xs place x ∙ is.whole }
