-- Places in the picture, in the form in which they are written.
use Rattle.std.specs.Prelude.{ℕ, ◌/◌, ◌%◌, List, ◌++◌, codes, decimal, pos}
use Rattle.std.specs.Int.{w64}
use Rattle.std.specs.Float.{float_round, float_to_unsigned}
use Rattle.std.specs.Float.Ieee.{Float, binary64, mul, of_int}

-- The nearest place in tenths of a pixel.
unfoldable pub tenths_of : Float → ℕ
tenths_of pixels =
    float_to_unsigned w64 (float_round binary64 (mul binary64 pixels (of_int binary64 (pos 10))))

-- A number of tenths as a decimal number of pixels.
abbrev pub tenths_text : ℕ → List ℕ
tenths_text tenths = decimal (tenths / 10) ++ (codes "." ++ decimal (tenths % 10))

-- The text of a place.
abbrev pub place_text : Float → List ℕ
place_text pixels = tenths_text (tenths_of pixels)
