-- Blended pixels and amplified differences with results computed by hand. Each line is proved by
-- computation (`refl`).
use Rattle.std.specs.Prelude.{◌≡◌, [], ◌∷◌, refl, pos, negsuc}
use Rattle.v_frame.specs.Prelude.{one_byte, two_bytes}
use Rattle.v_frame_ops.specs.Change.{combined}
use Rattle.v_frame_ops.specs.Compose.{weighted_mean, amplified_difference, blended, difference_of}
use Rattle.v_frame_ops.specs.Compose.{LiesOn}

-- A weight of 0 keeps the first value, and the full weight copies the second value.
kept : weighted_mean 256 0 7 200 ≡ 7
kept = refl

copied : weighted_mean 256 256 7 200 ≡ 200
copied = refl

kept_by_mask : weighted_mean 255 0 65535 0 ≡ 65535
kept_by_mask = refl

copied_by_mask : weighted_mean 255 255 0 65535 ≡ 65535
copied_by_mask = refl

-- The mean of 3 and 6 is 4.5, which is rounded up.
half_way : weighted_mean 256 128 3 6 ≡ 5
half_way = refl

-- (10 * 155 + 20 * 100) / 255 is 13.92.
by_mask : weighted_mean 255 100 10 20 ≡ 14
by_mask = refl

-- A blend with a weight of one quarter for the second row.
quarter : combined (blended one_byte 256 64) (0 ∷ 100 ∷ 255 ∷ []) (255 ∷ 104 ∷ 0 ∷ [])
    ≡ 64 ∷ 101 ∷ 191 ∷ []
quarter = refl

-- Differences of 10-bit values, multiplied by four.
amplified : combined (combined (difference_of two_bytes 4 10))
    ((0 ∷ 512 ∷ []) ∷ (900 ∷ 1023 ∷ []) ∷ []) ((0 ∷ 513 ∷ []) ∷ (800 ∷ 0 ∷ []) ∷ [])
    ≡ (0 ∷ 4 ∷ []) ∷ (400 ∷ 1023 ∷ []) ∷ []
amplified = refl

as_it_is : amplified_difference 1 8 250 3 ≡ 247
as_it_is = refl

-- The picture is placed at column -2 of row 3, so its column 2 lies on column 0.
to_the_left : LiesOn (negsuc 1) (pos 3) 2 1 0 4
to_the_left = record { across = refl; down = refl }
