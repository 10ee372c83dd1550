-- Numbers for each plane of a frame. They are limited to the greatest number of 128 bits.
use Rattle.std.specs.Prelude.{ℕ, ◌+◌, ◌-◌, ◌*◌, ◌^◌, min, Option, Some, None, option_map}
use Rattle.v_frame_formats.specs.declared.sums.PlaneSums.{PlaneSums}

abbrev pub u128_max : ℕ
u128_max = 2 ^ 128 - 1

abbrev pub at_most : ℕ → ℕ
at_most number = min number u128_max

-- The sum of the numbers of two chroma planes, if both exist.
abbrev pub added_chroma : Option ℕ → Option ℕ → Option ℕ
added_chroma (Some a) (Some b) = Some (at_most (a + b))
added_chroma _ _ = None

abbrev pub added : PlaneSums → PlaneSums → PlaneSums
added a b = record { y = at_most (a.y + b.y); u = added_chroma a.u b.u; v = added_chroma a.v b.v }

-- Each number multiplied by `count`.
abbrev pub multiplied : PlaneSums → ℕ → PlaneSums
multiplied a count =
    let times : ℕ → ℕ = λ number. at_most (number * count) in
    record { y = times a.y; u = option_map times a.u; v = option_map times a.v }
