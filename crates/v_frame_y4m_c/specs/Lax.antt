-- What a header line says in numbers, or the strict line that it stands for.
use Rattle.std.specs.Prelude.{ℕ, ◌≡◌, List}
use Rattle.v_frame_y4m.specs.Header.{IsHeader}
use Rattle.v_frame_y4m.specs.Lax.{strict_line}
use Rattle.v_frame_y4m.specs.declared.header.StreamHeader.{StreamHeader}
use Rattle.v_frame_y4m_c.specs.Header.{numbers_of}
use Rattle.v_frame_y4m_c.specs.declared.header.Header.{Header}

abbrev pub Says : List ℕ → Header → Type 0
Says line numbers =
    (found : StreamHeader) × IsHeader (strict_line line) found × (numbers ≡ numbers_of found)
