-- Lines and their strict lines. Each is proved by computation (`refl`).
use Rattle.std.specs.Prelude.{◌≡◌, [], codes, refl}
use Rattle.v_frame_y4m.specs.Lax.{strict_line, without_return}

lax : strict_line (codes "YUV4MPEG2  W35 H27   F25 C420 \r") ≡ codes "YUV4MPEG2 W35 H27 F25:1 C420"
lax = refl

strict : strict_line (codes "YUV4MPEG2 W35 H27 F30:1 XF25") ≡ codes "YUV4MPEG2 W35 H27 F30:1 XF25"
strict = refl

-- None of these is a lax form with a clear meaning.
half_a_rate : strict_line (codes "F25: F F0 F025 F2a A1") ≡ codes "F25: F F0 F025 F2a A1"
half_a_rate = refl

second_return : strict_line (codes "W35\r H27\r\r") ≡ codes "W35\r H27\r"
second_return = refl

tab : strict_line (codes "W35\tH27") ≡ codes "W35\tH27"
tab = refl

nothing : strict_line (codes " \r") ≡ []
nothing = refl

frame : without_return (codes "FRAME\r") ≡ codes "FRAME"
frame = refl

bare_frame : without_return (codes "FRAME") ≡ codes "FRAME"
bare_frame = refl
