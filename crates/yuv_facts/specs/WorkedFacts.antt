-- Examples that were calculated by hand. Each one is proved by computation (`refl`).
use Rattle.std.specs.Prelude.{◌≡◌, ◌∷◌, ◌++◌, [], Some, codes, refl}
use Rattle.v_frame_rgb.specs.declared.standard.ColorRange.TheVariants.{Full}
use Rattle.v_frame_y4m.specs.declared.color.ChromaSiting.TheVariants.{Left}
use Rattle.yuv_facts.specs.Facts.{extension_fact, siting_fact}
use Rattle.yuv_facts.specs.Statistics.{most_at, nominal_at, nominal_range, outside_from, range_up_to}

-- Black in 8 bits corresponds to these values in 10 and in 16 bits.
black_of_10_bits : nominal_at 10 16 ≡ 64
black_of_10_bits = refl

black_of_16_bits : nominal_at 16 16 ≡ 4096
black_of_16_bits = refl

-- Of the values 0 to 3, the first and the last are outside the range 1 to 2.
outside_of_two :
    outside_from (record { least = 1; greatest = 2; most = 3 }) 0 (5 ∷ (7 ∷ (9 ∷ (11 ∷ [])))) ≡ 16
outside_of_two = refl

-- If 2 is the greatest value of the depth, the last value is above the depth and is not counted.
outside_up_to_two :
    outside_from (record { least = 1; greatest = 2; most = 2 }) 0 (5 ∷ (7 ∷ (9 ∷ (11 ∷ [])))) ≡ 5
outside_up_to_two = refl

above_two : outside_from (range_up_to 2) 0 (5 ∷ (7 ∷ (9 ∷ (11 ∷ [])))) ≡ 11
above_two = refl

most_of_8_bits : most_at 8 ≡ 255
most_of_8_bits = refl

most_of_10_bits : most_at 10 ≡ 1023
most_of_10_bits = refl

most_of_16_bits : most_at 16 ≡ 65535
most_of_16_bits = refl

full_range_of_10_bits :
    nominal_range Full 235 10 ≡ record { least = 0; greatest = 1023; most = 1023 }
full_range_of_10_bits = refl

left_siting : siting_fact (Some Left) ≡ codes "chroma siting: left" ++ (10 ∷ [])
left_siting = refl

-- The bell character is not printable.
shown_extension : extension_fact (65 ∷ (7 ∷ [])) ≡ codes "extension: A?" ++ (10 ∷ [])
shown_extension = refl
