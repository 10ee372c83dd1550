-- The numbers of pixels and the sums of errors of frames of a size.
use Rattle.std.specs.Prelude.{ℕ, ◌*◌, Option, option_map}
use Rattle.v_frame_formats.specs.declared.sums.PlaneSums.{PlaneSums}
use Rattle.v_frame_streams.specs.Pictures.{Sizes}

-- The number of pixels of a plane of this size, and of each plane of a frame.
abbrev pub pixels_of_size : ℕ × ℕ → ℕ
pixels_of_size size = size.0 * size.1

abbrev pub pixels_of_sizes : Sizes → PlaneSums
pixels_of_sizes sizes =
    record {
      y = pixels_of_size sizes.0;
      u = option_map pixels_of_size sizes.1.0;
      v = option_map pixels_of_size sizes.1.1;
    }

-- A sum of 0 for each plane of frames of this size.
abbrev pub no_errors : Sizes → PlaneSums
no_errors size =
    let none : Option (ℕ × ℕ) → Option ℕ = option_map (λ _. 0) in
    record { y = 0; u = none size.1.0; v = none size.1.1 }
