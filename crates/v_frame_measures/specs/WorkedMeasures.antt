-- Small examples with results computed by hand. Each line is proved by computation (`refl`).
use Rattle.std.specs.Prelude.{ℕ, ◌≡◌, [], ◌∷◌, replicate, false, pos, negsuc, refl}
use Rattle.std.specs.Float.Ieee.{add, div, fin, mul, of_int}
use Rattle.v_frame.specs.Prelude.{Table, one_byte}
use Rattle.v_frame_measures.specs.declared.similarity.blocks.BlockSums.{BlockSums}
use Rattle.v_frame_measures.specs.BlockSums.{window_of}
use Rattle.v_frame_measures.specs.PixelSums.{sums_of_rectangle}
use Rattle.v_frame_measures.specs.Ssim.{constants_of, peak_of, ssim_of, windows_along}

-- The constants for the peaks 255 and 1023.
of_eight_bits : constants_of (peak_of 8) ≡ record { means = 416; variances = 235963 }
of_eight_bits = refl

of_ten_bits : constants_of (peak_of 10) ≡ record { means = 6698; variances = 3797644 }
of_ten_bits = refl

-- The number of windows along 8, 11 and 12 pixels.
one_window : windows_along 8 ≡ 1
one_window = refl

still_one : windows_along 11 ≡ 1
still_one = refl

two_windows : windows_along 12 ≡ 2
two_windows = refl

abbrev ramp : Table ℕ
ramp = (0 ∷ 1 ∷ 2 ∷ []) ∷ (3 ∷ 4 ∷ 5 ∷ []) ∷ []

abbrev other_ramp : Table ℕ
other_ramp = (0 ∷ 1 ∷ 2 ∷ []) ∷ (3 ∷ 4 ∷ 7 ∷ []) ∷ []

-- The last two columns have the values 1, 2, 4, 5 and 1, 2, 4, 7.
last_columns : sums_of_rectangle one_byte.value 1 0 2 2 ramp other_ramp
    ≡ record { first = 12; second = 14; squares = 116; products = 56 }
last_columns = refl

abbrev flat : ℕ → Table ℕ
flat value = replicate 8 (replicate 8 value)

-- Two equal pictures have the similarity 1.
alike : ssim_of one_byte 255 (flat 7) (flat 7) ≡ fin false 1 (pos 0)
unfolding add div mul of_int
alike = refl

-- A black and a white picture: c / (255 * 255 * 64 * 64 + c) with c = 416, rounded to 24 bits.
black_and_white : ssim_of one_byte 255 (flat 0) (flat 255) ≡ fin false 6869295 (negsuc 41)
unfolding add div mul of_int
black_and_white = refl

-- Two rows of blocks, one under the other.
abbrev above : BlockSums
above =
    record {
      first = 1 ∷ 2 ∷ 3 ∷ [];
      second = 4 ∷ 5 ∷ 6 ∷ [];
      squares = 7 ∷ 8 ∷ 9 ∷ [];
      products = 0 ∷ 1 ∷ 0 ∷ [];
    }

abbrev below : BlockSums
below =
    record {
      first = 10 ∷ 20 ∷ 30 ∷ [];
      second = 40 ∷ 50 ∷ 60 ∷ [];
      squares = 70 ∷ 80 ∷ 90 ∷ [];
      products = 0 ∷ 10 ∷ 0 ∷ [];
    }

first_window : window_of above below 0
    ≡ record { first = 33; second = 99; squares = 165; products = 11 }
first_window = refl

next_window : window_of above below 1
    ≡ record { first = 55; second = 121; squares = 187; products = 11 }
next_window = refl
