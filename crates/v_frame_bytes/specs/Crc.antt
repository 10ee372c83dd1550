-- The CRC of the PNG specification: the bytes are divided by a polynomial, one bit at a time.
use Rattle.std.specs.Prelude.{ℕ, zero, suc, ◌*◌, ◌/◌, ◌%◌, List, bit_xor, fold}

-- The polynomial 0xEDB88320, without its highest power. The coefficient of the lowest power is the
-- highest bit.
abbrev pub polynomial : ℕ
polynomial = 3988292384

-- All 32 bits set.
abbrev pub ones : ℕ
ones = 4294967295

-- One step moves all bits to the next lower position. If a 1 is shifted out, the polynomial is
-- subtracted.
abbrev pub divided_once : ℕ → ℕ
divided_once rest = bit_xor (rest / 2) (rest % 2 * polynomial)

-- The remainder after `steps` steps.
unfoldable pub divided : ℕ → ℕ → ℕ
divided zero rest = rest
divided (suc steps) rest = divided steps (divided_once rest)

-- A byte is added to the lowest bits, and eight steps divide it.
unfoldable pub crc_step : ℕ → ℕ → ℕ
crc_step rest byte = divided 8 (bit_xor rest byte)

-- The remainder of all bytes. The division begins with all bits set.
abbrev pub crc_rest : List ℕ → ℕ
crc_rest bytes = fold crc_step ones bytes

-- The CRC-32 is the remainder with all bits inverted.
unfoldable pub crc32 : List ℕ → ℕ
crc32 bytes = bit_xor (crc_rest bytes) ones
