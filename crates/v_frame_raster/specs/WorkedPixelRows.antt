-- Small rows with the results computed by hand. Each equation is proved by computation (`refl`).
use Rattle.std.specs.Prelude.{◌≡◌, [], ◌∷◌, refl}
use Rattle.v_frame_raster.specs.Pixel.{one_byte, two_bytes}
use Rattle.v_frame_raster.specs.PixelRows.{absolute_differences, squared_errors, halved}

-- The differences are 3, 0 and 255.
three_differences : absolute_differences one_byte.value (5 ∷ 7 ∷ 0 ∷ []) (8 ∷ 7 ∷ 255 ∷ []) ≡ 258
three_differences = refl

their_squares : squared_errors one_byte.value (5 ∷ 7 ∷ 0 ∷ []) (8 ∷ 7 ∷ 255 ∷ []) ≡ 65034
their_squares = refl

largest_square : squared_errors two_bytes.value (65535 ∷ []) (0 ∷ []) ≡ 4294836225
largest_square = refl

no_pixels : absolute_differences one_byte.value [] [] ≡ 0
no_pixels = refl

-- The sums are 10, 9 and 1020. A half is rounded up, and a quarter down.
three_blocks : halved one_byte (1 ∷ 2 ∷ 1 ∷ 2 ∷ 255 ∷ 255 ∷ []) (3 ∷ 4 ∷ 3 ∷ 3 ∷ 255 ∷ 255 ∷ [])
    ≡ 3 ∷ 2 ∷ 255 ∷ []
three_blocks = refl

-- Each pixel depends only on its own square of four pixels.
one_corner : halved two_bytes (0 ∷ 0 ∷ 0 ∷ 4 ∷ []) (0 ∷ 0 ∷ 0 ∷ 0 ∷ []) ≡ 0 ∷ 1 ∷ []
one_corner = refl
