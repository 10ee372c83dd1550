-- Pictures that were calculated by hand. Each one is proved by computation (`refl`).
use Rattle.std.specs.Prelude.{ℕ, ◌≡◌, [], ◌∷◌, refl}
use Rattle.v_frame_png_c.specs.Picture.{rows_of, status_of}
use Rattle.v_frame_png_c.specs.declared.picture.Picture.{Picture}

-- A picture of 2x2 pixels of red, green and blue. Each row begins 7 samples after the one before.
abbrev small : Picture
small = record { width = 2; height = 2; stride = 7; color = 1; compression = 1 }

its_rows : rows_of {T = ℕ} small (1 ∷ 2 ∷ 3 ∷ 4 ∷ 5 ∷ 6 ∷ 0 ∷ 7 ∷ 8 ∷ 9 ∷ 10 ∷ 11 ∷ 12 ∷ [])
    ≡ (1 ∷ 2 ∷ 3 ∷ 4 ∷ 5 ∷ 6 ∷ []) ∷ (7 ∷ 8 ∷ 9 ∷ 10 ∷ 11 ∷ 12 ∷ []) ∷ []
its_rows = refl

-- The last row may end at its width.
thirteen_samples : status_of small 13 ≡ 0
thirteen_samples = refl

twelve_samples : status_of small 12 ≡ 3
twelve_samples = refl

no_third_color : status_of (record small { color = 2 }) 13 ≡ 1
no_third_color = refl

no_width : status_of (record small { width = 0 }) 13 ≡ 2
no_width = refl

too_wide : status_of (record small { width = 2147483648 }) 13 ≡ 2
too_wide = refl
