-- The numbers of formats in C.
use Rattle.std.specs.Prelude.{ℕ, ◌==◌, if◌then◌else◌, Option, Some, None}
use Rattle.v_frame.specs.Prelude.{ChromaSubsampling, Yuv420, Yuv422, Yuv411, Yuv444, Monochrome}

-- The number of a format.
abbrev pub format_number : ChromaSubsampling → ℕ
format_number Monochrome = 0
format_number Yuv420 = 1
format_number Yuv422 = 2
format_number Yuv444 = 3
format_number Yuv411 = 4

-- The format with a number.
abbrev pub numbered_format : ℕ → Option ChromaSubsampling
numbered_format number =
    if number == 0 then Some Monochrome
    else (if number == 1 then Some Yuv420
    else (if number == 2 then Some Yuv422
    else (if number == 3 then Some Yuv444
    else (if number == 4 then Some Yuv411 else None))))
