-- The check value in catalogues of CRCs, which zlib also returns. It is proved by computation
-- (`refl`).
use Rattle.std.specs.Prelude.{◌≡◌, codes, refl}
use Rattle.v_frame_bytes.specs.Crc.{crc32, crc_step, divided}

crc_of_digits : crc32 (codes "123456789") ≡ 3421780262
unfolding crc32 crc_step divided
crc_of_digits = refl
