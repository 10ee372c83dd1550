-- The statuses of an export that do not come from the tests of the picture.
use Rattle.std.specs.Prelude.{ℕ}

abbrev pub out_of_memory : ℕ
out_of_memory = 4

abbrev pub short_buffer : ℕ
short_buffer = 5
