-- Examples that were calculated by hand. Each one is proved by computation (`refl`).
use Rattle.std.specs.Prelude.{◌≡◌, ◌∷◌, [], Some, None, codes, refl}
use Rattle.v_frame_rgb.specs.declared.standard.ColorRange.TheVariants.{Full, Limited}
use Rattle.v_frame_y4m.specs.declared.color.ChromaSiting.TheVariants.{Center, Left}
use Rattle.yuv_system.specs.Headers.{declared_range, known_apart, other_range, other_siting}

full_range : declared_range (codes "YSCSS=420JPEG" ∷ codes "COLORRANGE=FULL" ∷ []) ≡ Some Full
full_range = refl

limited_range : declared_range (codes "COLORRANGE=LIMITED" ∷ []) ≡ Some Limited
limited_range = refl

-- A header that declares both ranges counts as declaring none.
both_ranges : declared_range (codes "COLORRANGE=LIMITED" ∷ codes "COLORRANGE=FULL" ∷ []) ≡ None
both_ranges = refl

other_word : declared_range (codes "COLORRANGE=FULLER" ∷ []) ≡ None
other_word = refl

ranges_differ : other_range Limited Full ≡ Some (Limited, Full)
ranges_differ = refl

-- The rates 25:1 and 50:2 are the same. The rates 25:1 and 30:1 differ.
one_rate :
    known_apart (record { numerator = 25; denominator = 1 })
    (record { numerator = 50; denominator = 2 })
    ≡ None
one_rate = refl

two_rates :
    known_apart (record { numerator = 25; denominator = 1 })
    (record { numerator = 30; denominator = 1 })
    ≡ Some (record { numerator = 25; denominator = 1 }, record { numerator = 30; denominator = 1 })
two_rates = refl

unknown_rate :
    known_apart (record { numerator = 0; denominator = 0 })
    (record { numerator = 30; denominator = 1 })
    ≡ None
unknown_rate = refl

sitings_differ : other_siting (Some Left) (Some Center) ≡ Some (Left, Center)
sitings_differ = refl
