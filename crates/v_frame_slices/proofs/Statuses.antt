-- The status of five buffers if the fifth fails, or the sizes do.
use Rattle.std.proofs.Common.{◌≡◌, Bool, true, false, refl}
use Rattle.v_frame_slices.specs.Status.{status_of_five, status_of_format, status_of_number}

module _ (known format first second third fourth fifth sizes : Bool) (is_known : known ≡ true) (is_format : format ≡ true)
    (first_fits : first ≡ true) (second_fits : second ≡ true) (third_fits : third ≡ true) (fourth_fits : fourth ≡ true) where
  pub fifth_fails : fifth ≡ false
      → 9 ≡ status_of_number known (status_of_format format (status_of_five first second third fourth fifth sizes))
  fifth_fails none = rw (is_known, is_format, first_fits, second_fits, third_fits, fourth_fits, none) refl

  pub sizes_fail : fifth ≡ true → sizes ≡ false
      → 3 ≡ status_of_number known (status_of_format format (status_of_five first second third fourth fifth sizes))
  sizes_fail fits others = rw (is_known, is_format, first_fits, second_fits, third_fits, fourth_fits, fits, others) refl
