-- A pixel is represented by its value. Its bytes are the digits of the value in base 256, in
-- little-endian order.
use Rattle.std.specs.Prelude.{ℕ, zero, suc, ◌+◌, ◌*◌, ◌/◌, ◌%◌, ◌^◌, List, [], ◌∷◌, map, flat_map}
use Rattle.v_frame_raster.specs.Table.{Table, row_major, cut_rows}

-- Byte i of a value, in little-endian order.
abbrev pub byte_of : ℕ → ℕ → ℕ
byte_of value i = (value / 256 ^ i) % 256

-- The n bytes of a value that begin at byte i.
abbrev pub bytes_from : ℕ → ℕ → ℕ → List ℕ
bytes_from i zero value = []
bytes_from i (suc n) value = byte_of value i ∷ bytes_from (i + 1) n value

-- The n low bytes of a value, in little-endian order.
abbrev pub bytes_of : ℕ → ℕ → List ℕ
bytes_of n value = bytes_from 0 n value

-- The sum of the bytes, each times its weight. The first byte has the weight 256 ^ i.
abbrev pub value_from : ℕ → List ℕ → ℕ
value_from i [] = 0
value_from i (byte ∷ bytes) = byte * 256 ^ i + value_from (i + 1) bytes

-- The value with these bytes, in little-endian order.
abbrev pub value_of_bytes : List ℕ → ℕ
value_of_bytes bytes = value_from 0 bytes

-- The byte encoding of a pixel type: the size of a pixel in bytes, the value of a pixel, and the
-- pixel with a given value.
pub record PixelForm (T : Type 0) : Type 0 where
  pub size : ℕ
  pub value : T → ℕ
  pub pixel_of : ℕ → T

-- Pixels of one byte that are their own values.
abbrev pub one_byte : PixelForm ℕ
one_byte = record { size = 1; value = λ value. value; pixel_of = λ value. value }

-- Pixels of two bytes that are their own values.
abbrev pub two_bytes : PixelForm ℕ
two_bytes = record { size = 2; value = λ value. value; pixel_of = λ value. value }

module _ {T : Type 0} (form : PixelForm T) where
  -- The bytes of a list of pixels, pixel by pixel, each in little-endian order.
  abbrev pub bytes_of_pixels : List T → List ℕ
  bytes_of_pixels pixels = flat_map (λ pixel. bytes_of form.size (form.value pixel)) pixels

  -- The bytes of a table, row by row from the top.
  abbrev pub byte_list : Table T → List ℕ
  byte_list table = bytes_of_pixels (row_major table)

  -- The first `count` pixels of a list of bytes, which is cut into groups of the size of a pixel.
  abbrev pub pixels_of_bytes : ℕ → List ℕ → List T
  pixels_of_bytes count bytes =
      map (λ group. form.pixel_of (value_of_bytes group)) (cut_rows form.size count bytes)
