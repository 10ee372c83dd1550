-- A header in numbers, as C reads it, and the numbers of an error.
use Rattle.std.specs.Prelude.{ℕ, Option, Some, None}
use Rattle.v_frame_slices.specs.Formats.{format_number}
use Rattle.v_frame_y4m.specs.Color.{depth_of, siting_of, subsampling_of}
use Rattle.v_frame_y4m.specs.declared.color.ChromaSiting.{ChromaSiting}
use Rattle.v_frame_y4m.specs.declared.color.ChromaSiting.TheVariants.{Center, Left, Alternating}
use Rattle.v_frame_y4m.specs.declared.header.Interlacing.{Interlacing}
use Rattle.v_frame_y4m.specs.declared.header.Interlacing.TheVariants.{Progressive, TopFirst, BottomFirst, Mixed}
use Rattle.v_frame_y4m.specs.declared.header.Interlacing.TheVariants.{Unknown}
use Rattle.v_frame_y4m.specs.declared.header.Ratio.{Ratio as TheRatio}
use Rattle.v_frame_y4m.specs.declared.header.StreamHeader.{StreamHeader}
use Rattle.v_frame_y4m.specs.declared.error.HeaderError.{HeaderError}
use Rattle.v_frame_y4m.specs.declared.error.HeaderError.TheVariants.{NotAStream, Missing, Duplicate, Malformed}
use Rattle.v_frame_y4m.specs.declared.error.HeaderError.TheVariants.{ZeroSize, SizeTooLarge, UnknownColor, OutOfMemory}
use Rattle.v_frame_y4m_c.specs.Extensions.{range_number}
use Rattle.v_frame_y4m_c.specs.declared.header.Header.{Header}
use Rattle.v_frame_y4m_c.specs.declared.header.Ratio.{Ratio}

abbrev pub siting_number : Option ChromaSiting → ℕ
siting_number None = 0
siting_number (Some Center) = 1
siting_number (Some Left) = 2
siting_number (Some Alternating) = 3

abbrev pub interlacing_number : Option Interlacing → ℕ
interlacing_number None = 0
interlacing_number (Some Progressive) = 1
interlacing_number (Some TopFirst) = 2
interlacing_number (Some BottomFirst) = 3
interlacing_number (Some Mixed) = 4
interlacing_number (Some Unknown) = 5

abbrev pub ratio_numbers : Option TheRatio → Ratio
ratio_numbers None = record { stated = 0; numerator = 0; denominator = 0 }
ratio_numbers (Some r) = record { stated = 1; numerator = r.numerator; denominator = r.denominator }

-- the numbers of a header
abbrev pub numbers_of : StreamHeader → Header
numbers_of h =
    record {
      width = h.width;
      height = h.height;
      format = format_number (subsampling_of h.color);
      bit_depth = depth_of h.color;
      siting = siting_number (siting_of h.color);
      interlacing = interlacing_number h.interlacing;
      frame_rate = ratio_numbers h.frame_rate;
      pixel_aspect = ratio_numbers h.pixel_aspect;
      range = range_number h.extensions;
    }

-- the status of an error
abbrev pub status_of : HeaderError → ℕ
status_of NotAStream = 1
status_of (Missing letter) = 2
status_of (Duplicate letter) = 3
status_of (Malformed text) = 4
status_of (ZeroSize letter) = 5
status_of (SizeTooLarge text) = 6
status_of (UnknownColor text) = 7
status_of OutOfMemory = 8

-- the letter that an error names, or 0
abbrev pub letter_of : HeaderError → ℕ
letter_of NotAStream = 0
letter_of (Missing letter) = letter
letter_of (Duplicate letter) = letter
letter_of (Malformed text) = 0
letter_of (ZeroSize letter) = letter
letter_of (SizeTooLarge text) = 0
letter_of (UnknownColor text) = 0
letter_of OutOfMemory = 0
