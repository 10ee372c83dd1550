-- The mean squared error of two pictures.
use Rattle.std.specs.Prelude.{ℕ, ◌*◌, pos}
use Rattle.std.specs.Float.Ieee.{Float, binary64, div, of_int}
use Rattle.v_frame.specs.Prelude.{Table, width_of, height_of, row_major, squared_errors}

-- A number, rounded to the nearest `f64`.
abbrev pub double : ℕ → Float
double n = of_int binary64 (pos n)

-- The sum of the squared differences, divided by the number of pixels.
abbrev pub mean_error : {T : Type 0} → (T → ℕ) → Table T → Table T → Float
mean_error value a b =
    div binary64 (double (squared_errors value (row_major a) (row_major b)))
    (double (width_of a * height_of a))
