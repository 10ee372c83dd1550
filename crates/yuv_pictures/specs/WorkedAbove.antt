-- Examples that were calculated by hand. Each one is proved by computation (`refl`).
use Rattle.std.specs.Prelude.{◌≡◌, refl}
use Rattle.yuv_pictures.specs.Above.{most_at}

most_of_8_bits : most_at 8 ≡ 255
most_of_8_bits = refl

most_of_10_bits : most_at 10 ≡ 1023
most_of_10_bits = refl

most_of_16_bits : most_at 16 ≡ 65535
most_of_16_bits = refl
