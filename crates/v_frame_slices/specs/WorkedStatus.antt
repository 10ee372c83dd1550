-- Statuses that were calculated by hand. Each one is proved by computation (`refl`).
use Rattle.std.specs.Prelude.{◌≡◌, true, false, refl}
use Rattle.v_frame_slices.specs.Layout.{fits}
use Rattle.v_frame_slices.specs.Measures.{has_window, status_of_windows}
use Rattle.v_frame_slices.specs.Sizes.{have_areas, is_counted}
use Rattle.v_frame_slices.specs.Status.{status_of_sized, status_of_two, same_size, times_size}
use Rattle.v_frame_slices.specs.declared.layout.Rows.{Rows}

abbrev four_by_two : Rows
four_by_two = record { width = 4; height = 2; stride = 6 }

abbrev two_by_one : Rows
two_by_one = record { width = 2; height = 1; stride = 2 }

-- The last row may end at its width.
ten_entries : fits four_by_two 10 ≡ true
ten_entries = refl

nine_entries : fits four_by_two 9 ≡ false
nine_entries = refl

other_sizes : status_of_two (fits four_by_two 12) (fits two_by_one 2)
    (same_size four_by_two two_by_one) ≡ 3
other_sizes = refl

half : times_size 2 two_by_one four_by_two ≡ true
half = refl

unsized : status_of_sized (fits four_by_two 10) false ≡ 3
unsized = refl

small_areas : have_areas two_by_one four_by_two ≡ true
small_areas = refl

-- Rows of 2 ^ 33 pixels are not resized to rows of 2 ^ 31 pixels.
long_lines : have_areas (record two_by_one { width = 8589934592 })
    (record four_by_two { width = 2147483648 }) ≡ false
long_lines = refl

beyond_the_count : is_counted (record two_by_one { height = 4611686018427387904 }) ≡ false
beyond_the_count = refl

-- No window fits into a picture of 4 by 2 pixels. The earlier tests come first.
no_window : status_of_windows 0 (has_window four_by_two) ≡ 8
no_window = refl

other_sizes_first : status_of_windows 3 (has_window four_by_two) ≡ 3
other_sizes_first = refl
