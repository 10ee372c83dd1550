-- The header that is written for numbers, and why there is none.
use Rattle.std.specs.Prelude.{ℕ, ◌≡◌, ◌++◌, ◌≤◌, ◌⊎◌, List, [], Option, Some, drop, length}
use Rattle.v_frame.specs.Prelude.{ChromaSubsampling}
use Rattle.v_frame_y4m.specs.Color.{color_with, depth_of, siting_of, subsampling_of}
use Rattle.v_frame_y4m.specs.Header.{IsWritable}
use Rattle.v_frame_y4m.specs.declared.color.ChromaSiting.{ChromaSiting}
use Rattle.v_frame_y4m.specs.declared.color.Color.{Color}
use Rattle.v_frame_y4m.specs.declared.header.Interlacing.{Interlacing}
use Rattle.v_frame_y4m.specs.declared.header.Ratio.{Ratio as TheRatio}
use Rattle.v_frame_y4m.specs.declared.header.StreamHeader.{StreamHeader}
use Rattle.v_frame_slices.specs.Formats.{format_number}
use Rattle.v_frame_y4m_c.specs.Extensions.{HasExtensions}
use Rattle.v_frame_y4m_c.specs.Header.{interlacing_number, numbers_of, ratio_numbers, siting_number}
use Rattle.v_frame_y4m_c.specs.declared.header.Header.{Header}
use Rattle.v_frame_y4m_c.specs.declared.numbers.NumberFault.{NumberFault}
use Rattle.v_frame_y4m_c.specs.declared.numbers.NumberFault.TheVariants.{ZeroSize, NoSuchNumber, NoSuchColor}

-- the same numbers with no range
abbrev pub without_range : Header → Header
without_range n =
    record {
      width = n.width;
      height = n.height;
      format = n.format;
      bit_depth = n.bit_depth;
      siting = n.siting;
      interlacing = n.interlacing;
      frame_rate = n.frame_rate;
      pixel_aspect = n.pixel_aspect;
      range = 0;
    }

-- The header with these numbers and no extensions. Of the colors that have the same format, depth
-- and siting it has the one of the table.
pub record IsHeaderOf (n : Header) (h : StreamHeader) : Type 0 where
  pub numbers : numbers_of h ≡ without_range n
  pub writable : IsWritable h
  pub color : color_with (subsampling_of h.color) (depth_of h.color) (siting_of h.color)
      ≡ Some h.color
  pub extensions : h.extensions ≡ []

-- The header with these numbers and the extensions of a text, which is written.
pub record IsWrittenHeader (n : Header) (text : List ℕ) (h : StreamHeader) : Type 0 where
  pub numbers : numbers_of h ≡ n
  pub writable : IsWritable h
  pub color : color_with (subsampling_of h.color) (depth_of h.color) (siting_of h.color)
      ≡ Some h.color
  pub extensions : HasExtensions n.range text h.extensions

abbrev pub IsEmpty : Header → Type 0
IsEmpty n = (n.width ≡ 0) ⊎ (n.height ≡ 0)

-- each number is one of its enum, and a ratio that is not stated has zeros
pub record IsNumbered (n : Header) : Type 0 where
  pub format : (f : ChromaSubsampling) × (format_number f ≡ n.format)
  pub siting : (s : Option ChromaSiting) × (siting_number s ≡ n.siting)
  pub interlacing : (i : Option Interlacing) × (interlacing_number i ≡ n.interlacing)
  pub frame_rate : (r : Option TheRatio) × (ratio_numbers r ≡ n.frame_rate)
  pub pixel_aspect : (r : Option TheRatio) × (ratio_numbers r ≡ n.pixel_aspect)
  pub range : n.range ≤ 2

-- the color has this format, this depth and this siting
pub record IsColorOf (n : Header) (c : Color) : Type 0 where
  pub format : format_number (subsampling_of c) ≡ n.format
  pub depth : depth_of c ≡ n.bit_depth
  pub siting : siting_number (siting_of c) ≡ n.siting

-- why no header with a line has the numbers
abbrev pub HasNoHeader : Header → NumberFault → Type 0
HasNoHeader n ZeroSize = IsEmpty n
HasNoHeader n NoSuchNumber = ¬ (IsEmpty n) × ¬ (IsNumbered n)
HasNoHeader n NoSuchColor = ¬ (IsEmpty n) × (IsNumbered n × ((c : Color) → ¬ (IsColorOf n c)))

-- the bytes are at the front of a buffer, whose rest is unchanged
pub record IsWrittenInFront (bytes old new : List ℕ) : Type 0 where
  pub room : length bytes ≤ length old
  pub written : new ≡ bytes ++ drop (length bytes) old
