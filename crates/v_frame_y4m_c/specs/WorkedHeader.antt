-- A header in numbers worked out by hand. Each line computes: it is proved by `refl`.
use Rattle.std.specs.Prelude.{◌≡◌, Some, None, refl}
use Rattle.v_frame.specs.Prelude.{Yuv411}
use Rattle.v_frame_slices.specs.Formats.{format_number}
use Rattle.v_frame_y4m_c.specs.Header.{interlacing_number, ratio_numbers, siting_number}

quarter : format_number Yuv411 ≡ 4
quarter = refl

no_siting : siting_number None ≡ 0
no_siting = refl

no_interlacing : interlacing_number None ≡ 0
no_interlacing = refl

rate : ratio_numbers (Some (record { numerator = 30000; denominator = 1001 }))
    ≡ record { stated = 1; numerator = 30000; denominator = 1001 }
rate = refl
