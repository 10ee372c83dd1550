-- Resized pictures computed by hand. Each line is proved by computation (`refl`).
use Rattle.std.specs.Prelude.{ℕ, ◌≡◌, [], ◌∷◌, refl}
use Rattle.v_frame_raster.specs.Pixel.{one_byte}
use Rattle.v_frame_raster.specs.Table.{Table}
use Rattle.v_frame_resize.specs.Resize.{overlap, row_sum, area_sum, area_mean, nearest}

-- Three source pixels of 2 units each, and two target pixels of 3 units each.
first_in_first : overlap 3 2 0 0 ≡ 2
first_in_first = refl

middle_in_first : overlap 3 2 1 0 ≡ 1
middle_in_first = refl

middle_in_second : overlap 3 2 1 1 ≡ 1
middle_in_second = refl

last_in_first : overlap 3 2 2 0 ≡ 0
last_in_first = refl

abbrev two_rows : Table ℕ
two_rows = (10 ∷ 20 ∷ 30 ∷ []) ∷ (40 ∷ 50 ∷ 60 ∷ []) ∷ []

sum_of_row : row_sum one_byte 2 0 (10 ∷ 20 ∷ 30 ∷ []) ≡ 40
sum_of_row = refl

sum_of_area : area_sum one_byte two_rows 2 1 0 0 ≡ 170
sum_of_area = refl

-- 170 / 6 is 28.3, and 250 / 6 is 41.7.
mean : area_mean one_byte two_rows 2 1 0 0 ≡ 28
mean = refl

mean_beside : area_mean one_byte two_rows 2 1 1 0 ≡ 42
mean_beside = refl

-- The middle one of three target pixels covers half of each of two source pixels.
mean_between : area_mean one_byte ((10 ∷ 21 ∷ []) ∷ []) 3 1 1 0 ≡ 16
mean_between = refl

-- Four centers over seven source pixels, and over two.
centers : nearest 7 4 0 ∷ nearest 7 4 1 ∷ nearest 7 4 2 ∷ nearest 7 4 3 ∷ []
    ≡ 0 ∷ 2 ∷ 4 ∷ 6 ∷ []
centers = refl

centers_of_two : nearest 2 4 0 ∷ nearest 2 4 1 ∷ nearest 2 4 2 ∷ nearest 2 4 3 ∷ []
    ≡ 0 ∷ 0 ∷ 1 ∷ 1 ∷ []
centers_of_two = refl
