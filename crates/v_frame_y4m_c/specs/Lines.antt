-- The first line of bytes in memory.
use Rattle.std.specs.Prelude.{ℕ, ◌≡◌, ◌+◌, ◌<◌, ◌≤◌, List, Some, length, slice_get, take}
use Rattle.v_frame_y4m.specs.Ascii.{line_feed}
use Rattle.v_frame_y4m.specs.Streams.{max_line_bytes, IsLine}
use Rattle.v_frame_y4m_c.specs.declared.lines.LineFault.{LineFault}
use Rattle.v_frame_y4m_c.specs.declared.lines.LineFault.TheVariants.{Unfinished, TooLong}

-- the number of bytes before the first line feed, which is at most the length of the longest line
pub record IsFirstLine (bytes : List ℕ) (n : ℕ) : Type 0 where
  pub line : IsLine (take n bytes)
  pub ended : slice_get bytes n ≡ Some line_feed
  pub short : n ≤ max_line_bytes

-- why the bytes do not begin with a line
abbrev pub HasNoLine : List ℕ → LineFault → Type 0
HasNoLine bytes Unfinished = IsLine bytes × (length bytes ≤ max_line_bytes)
HasNoLine bytes TooLong =
    IsLine (take (max_line_bytes + 1) bytes) × (max_line_bytes < length bytes)
