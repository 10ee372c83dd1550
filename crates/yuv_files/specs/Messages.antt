-- The characters that messages do not contain.
use Rattle.std.specs.Prelude.{ℕ, ◌<◌, ◌≤◌, ◌⊎◌}

-- The character is a control character of ISO/IEC 6429: one of C0, DEL or C1.
abbrev pub IsControl : ℕ → Type 0
IsControl code = (code < 32) ⊎ (127 ≤ code × code < 160)
