-- Numbers of choices that were calculated by hand. Each one is proved by computation (`refl`).
use Rattle.std.specs.Prelude.{ℕ, ◌≡◌, [], ◌∷◌, true, false, refl}
use Rattle.v_frame.specs.Prelude.{Table, one_byte}
use Rattle.v_frame_convert.specs.declared.range.Component.TheVariants.{Chroma}
use Rattle.v_frame_slices.specs.ColorChoice.{bytes_by, color_by}
use Rattle.v_frame_slices.specs.Counts.{count_between}
use Rattle.v_frame_slices.specs.Numbers.{component_by, is_begun, is_component, is_depth, is_turn, turn_by}
use Rattle.v_frame_turn.specs.Prelude.{turned}
use Rattle.v_frame_slices.specs.TopBits.{in_top_bits, of_top_bits}

abbrev one_row : Table ℕ
one_row = (1 ∷ 2 ∷ 3 ∷ []) ∷ []

clockwise : turned (turn_by 4) one_row ≡ (1 ∷ []) ∷ (2 ∷ []) ∷ (3 ∷ []) ∷ []
clockwise = refl

the_other_way : turned (turn_by 5) one_row ≡ (3 ∷ []) ∷ (2 ∷ []) ∷ (1 ∷ []) ∷ []
the_other_way = refl

no_seventh : is_turn 6 ≡ false
no_seventh = refl

nine_bits_of_two_bytes : is_depth 2 9 ≡ true
nine_bits_of_two_bytes = refl

nine_bits_of_one_byte : is_depth 1 9 ≡ false
nine_bits_of_one_byte = refl

three_for_five : is_begun 5 2 3 ≡ true
three_for_five = refl

second_component : component_by 1 ≡ Chroma
second_component = refl

no_third_component : is_component 2 ≡ false
no_third_component = refl

-- The order with blue first and a fourth byte.
blue_first : bytes_by 1 (color_by 3 (7 ∷ 8 ∷ 9 ∷ 1 ∷ [])) ≡ 7 ∷ 8 ∷ 9 ∷ []
blue_first = refl

-- Both ends of the range are included.
two_of_four : count_between one_byte.value 2 3 (1 ∷ 2 ∷ 3 ∷ 4 ∷ []) ≡ 2
two_of_four = refl

none_between : count_between one_byte.value 3 2 (1 ∷ 2 ∷ 3 ∷ 4 ∷ []) ≡ 0
none_between = refl

-- In 10 bits, each word is 64 times the sample. Only the low bits of a larger sample are kept.
p010 : in_top_bits 10 ((1 ∷ 1023 ∷ 1025 ∷ []) ∷ []) ≡ (64 ∷ 65472 ∷ 64 ∷ []) ∷ []
p010 = refl

-- Low bits that are not used are lost.
of_p010 : of_top_bits 10 ((64 ∷ 65535 ∷ 127 ∷ []) ∷ []) ≡ (1 ∷ 1023 ∷ 1 ∷ []) ∷ []
of_p010 = refl

p016 : in_top_bits 16 ((1 ∷ 65535 ∷ []) ∷ []) ≡ (1 ∷ 65535 ∷ []) ∷ []
p016 = refl
