-- A picture as C describes it, and the tests that it must pass.
use Rattle.std.specs.Prelude.{ℕ, ◌+◌, ◌-◌, ◌*◌, ◌^◌, ◌==◌, Bool, true, false, ◌&&◌, if◌then◌else◌, List, nat_le, nat_lt}
use Rattle.v_frame.specs.Prelude.{Table, strided_rows}
use Rattle.v_frame_png.specs.declared.compression.Compression.{Compression}
use Rattle.v_frame_png.specs.declared.compression.Compression.TheVariants.{Fixed, Stored}
use Rattle.v_frame_png.specs.declared.header.ColorSpace.TheVariants.{Unnamed}
use Rattle.v_frame_png.specs.declared.header.Header.{Header}
use Rattle.v_frame_png.specs.declared.header.Samples.{Samples}
use Rattle.v_frame_png.specs.declared.header.Samples.TheVariants.{Gray8, Gray16, Rgb8, Rgb16}
use Rattle.v_frame_png_c.specs.declared.picture.Picture.{Picture}

-- The number of samples in a pixel: one for gray, and three for red, green and blue.
abbrev pub entries_by : ℕ → ℕ
entries_by color = if color == 0 then 1 else 3

abbrev pub samples_of_bytes : ℕ → Samples
samples_of_bytes color = if color == 0 then Gray8 else Rgb8

abbrev pub samples_of_words : ℕ → Samples
samples_of_words color = if color == 0 then Gray16 else Rgb16

abbrev pub compression_by : ℕ → Compression
compression_by number = if number == 0 then Stored else Fixed

-- The numbers for the color and the compression are valid.
abbrev pub is_known : Picture → Bool
is_known p = nat_lt p.color 2 && nat_lt p.compression 2

-- A PNG file can have this width and height.
abbrev pub is_size : Picture → Bool
is_size p =
    nat_lt 0 p.width && (nat_lt p.width (2 ^ 31) && (nat_lt 0 p.height && nat_lt p.height (2 ^ 31)))

-- The rows do not overlap, and end within the given number of samples.
abbrev pub fits_in : ℕ → ℕ → ℕ → ℕ → Bool
fits_in width height stride count =
    nat_lt 0 width && (nat_lt 0 height && (nat_le width stride
    && nat_le (stride * (height - 1) + width) count))

abbrev pub fits : Picture → ℕ → Bool
fits p count = fits_in (p.width * entries_by p.color) p.height p.stride count

-- The samples of the rows.
abbrev pub rows_of : {T : Type 0} → Picture → List T → Table T
rows_of p samples = strided_rows (p.width * entries_by p.color) p.height p.stride samples

abbrev pub header_by : Samples → Picture → Header
header_by samples p =
    record { width = p.width; height = p.height; samples = samples; color_space = Unnamed }

-- The status of the first test that fails, or 0 if none does.
abbrev pub first_fault : Bool → Bool → Bool → ℕ
first_fault false size rows = 1
first_fault true false rows = 2
first_fault true true false = 3
first_fault true true true = 0

abbrev pub status_of : Picture → ℕ → ℕ
status_of p count = first_fault (is_known p) (is_size p) (fits p count)
