-- The integer steps of each standard equal its fractions, and they are small.
use Rattle.std.proofs.Common.{ℕ, ◌≡◌, ◌-◌, ◌*◌, ◌^◌, ◌<◌, ◌≤◌, arith}
use Rattle.std.proofs.Math.Nat.{pow-le-pow_right}
use Rattle.std.proofs.lemmas.Nat.{pow_pos}
use Rattle.v_frame_rgb.specs.Exact.{steps_at}
use Rattle.v_frame_rgb.specs.Standards.{Levels, color_steps, weights_of}
use Rattle.v_frame_rgb.specs.WholeSteps.{AreSmall, AreSteps, unit_at, whole_steps_of}
use Rattle.v_frame_rgb.specs.declared.standard.Standard.{Standard}
use Rattle.v_frame_rgb.specs.declared.standard.Standard.TheVariants.{Bt601, Bt709, Bt2020}
use Rattle.v_frame_rgb.specs.declared.standard.ColorRange.{ColorRange}
use Rattle.v_frame_rgb.specs.declared.standard.ColorRange.TheVariants.{Limited, Full}

abbrev limited_levels : ℕ → Levels
limited_levels unit = record { black = 16 * unit; luma = 219 * unit; chroma = 224 * unit }

abbrev full_levels : ℕ → Levels
full_levels unit = record { black = 0; luma = unit; chroma = unit }

steps_in_limited : (standard : Standard) (unit : ℕ) → 0 < unit
    → AreSteps (color_steps (weights_of standard) (limited_levels unit))
    ((whole_steps_of standard Limited).scale * unit) (whole_steps_of standard Limited)
steps_in_limited Bt601 unit some = omega arith
steps_in_limited Bt709 unit some = omega arith
steps_in_limited Bt2020 unit some = omega arith

steps_in_full : (standard : Standard) (unit : ℕ) → 0 < unit
    → AreSteps (color_steps (weights_of standard) (full_levels unit))
    ((whole_steps_of standard Full).scale * unit) (whole_steps_of standard Full)
steps_in_full Bt601 unit some = omega arith
steps_in_full Bt709 unit some = omega arith
steps_in_full Bt2020 unit some = omega arith

pub steps_are_whole : (standard : Standard) (range : ColorRange) (depth : ℕ) → 8 ≤ depth
    → AreSteps (steps_at standard range depth) ((whole_steps_of standard range).scale * unit_at range depth)
    (whole_steps_of standard range)
steps_are_whole standard Limited depth deep = steps_in_limited standard (2 ^ (depth - 8)) (pow_pos (depth - 8))
steps_are_whole standard Full depth deep =
    let two : 0 < 2 = omega arith in
    let more : 2 ^ 8 ≤ 2 ^ depth = pow-le-pow_right two deep in
    steps_in_full standard (2 ^ depth - 1) (omega (arith, more))

pub unit_is_small : (range : ColorRange) (depth : ℕ) → depth ≤ 16 → unit_at range depth < 65536
unit_is_small Limited depth high =
    let two : 0 < 2 = omega arith in
    let below : depth - 8 ≤ 8 = omega arith in
    let less : 2 ^ (depth - 8) ≤ 2 ^ 8 = pow-le-pow_right two below in
    omega (arith, less)
unit_is_small Full depth high =
    let two : 0 < 2 = omega arith in
    let less : 2 ^ depth ≤ 2 ^ 16 = pow-le-pow_right two high in
    omega (arith, less)

pub steps_are_small : (standard : Standard) (range : ColorRange) (unit : ℕ) → unit < 65536
    → AreSmall ((whole_steps_of standard range).scale * unit) (whole_steps_of standard range)
steps_are_small Bt601 Limited unit low = omega arith
steps_are_small Bt601 Full unit low = omega arith
steps_are_small Bt709 Limited unit low = omega arith
steps_are_small Bt709 Full unit low = omega arith
steps_are_small Bt2020 Limited unit low = omega arith
steps_are_small Bt2020 Full unit low = omega arith
