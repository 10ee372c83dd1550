-- The statuses of faults other than those of a line that is parsed.
use Rattle.std.specs.Prelude.{ℕ}
use Rattle.v_frame_y4m_c.specs.declared.extensions.ExtensionFault.{ExtensionFault}
use Rattle.v_frame_y4m_c.specs.declared.extensions.ExtensionFault.TheVariants.{NotExtensions, OtherRange, OutOfMemory}
use Rattle.v_frame_y4m_c.specs.declared.lines.LineFault.{LineFault}
use Rattle.v_frame_y4m_c.specs.declared.lines.LineFault.TheVariants.{Unfinished, TooLong}
use Rattle.v_frame_y4m_c.specs.declared.numbers.NumberFault.{NumberFault}
use Rattle.v_frame_y4m_c.specs.declared.numbers.NumberFault.TheVariants.{ZeroSize, NoSuchNumber, NoSuchColor}

-- the number of bytes of a frame does not fit `usize`
abbrev pub size_too_large : ℕ
size_too_large = 6

abbrev pub out_of_memory : ℕ
out_of_memory = 8

abbrev pub short_buffer : ℕ
short_buffer = 10

-- the line is not one that begins a frame
abbrev pub no_frame : ℕ
no_frame = 13

-- the text of the extensions states anything else
abbrev pub not_extensions : ℕ
not_extensions = 15

-- the extensions state another range than the header
abbrev pub other_range : ℕ
other_range = 16

abbrev pub status_of_numbers : NumberFault → ℕ
status_of_numbers ZeroSize = 5
status_of_numbers NoSuchColor = 7
status_of_numbers NoSuchNumber = 9

abbrev pub status_of_extensions : ExtensionFault → ℕ
status_of_extensions OutOfMemory = 8
status_of_extensions NotExtensions = 15
status_of_extensions OtherRange = 16

abbrev pub status_of_line : LineFault → ℕ
status_of_line Unfinished = 11
status_of_line TooLong = 12
