-- The inputs of a command: a stream with a header line, or headerless video in the format that an
-- option gives.
use Rattle.std.specs.Prelude.{ℕ, ◌≡◌, ◌/◌, if◌then◌else◌, nat_lt, Bool, true, false, codes, List, [], ◌∷◌, Option, Some, None, IfSome}
use Rattle.std.specs.Borrow.{MutBor}
use Rattle.v_frame_y4m.specs.declared.header.StreamHeader.{StreamHeader}
use Rattle.v_frame_streams.specs.Conversions.{layout_in}
use Rattle.v_frame_streams.specs.Sources.{bytes_left, IsOpened}
use Rattle.v_frame_streams.specs.Streams.{ReadsHeaderLine}
use Rattle.v_frame_streams.specs.declared.source.Source.{Source}
use Rattle.v_frame_streams.specs.declared.stream.Container.{Container}
use Rattle.v_frame_streams.specs.declared.stream.Container.TheVariants.{Raw, Y4m}
use Rattle.yuv_system.specs.InputFiles.{bytes_of_input, BeginsAsAStream, IsInputOf}
use Rattle.yuv_system.specs.declared.input_file.InputFile.{InputFile}
use Rattle.v_frame_formats.specs.Formats.{format_color}
use Rattle.yuv_words.specs.declared.command.RawVideo.{RawVideo}

-- The extension that states full range, as ffmpeg writes it.
abbrev pub range_extensions : Bool → List (List ℕ)
range_extensions true = codes "COLORRANGE=FULL" ∷ []
range_extensions false = []

-- The header that a stream of this size and format would have.
abbrev pub header_of_raw : RawVideo → StreamHeader
header_of_raw video =
    record {
      width = video.width;
      height = video.height;
      frame_rate = video.rate;
      interlacing = None;
      pixel_aspect = None;
      color = format_color video.format;
      extensions = range_extensions video.full_range;
    }

-- A stream of this file was opened, and none of its frames have been read.
module _ {F I : Type 0} (remaining : InputFile F I → Option (List ℕ)) (file : InputFile F I) where
  -- The file begins as a stream does, `source` has the header that its header line states, and its
  -- frames are planar.
  abbrev pub OpensAsY4m : Source (MutBor (InputFile F I)) → Type 0
  OpensAsY4m source =
      IsOpened file.place Y4m source
      × IfSome (remaining file) BeginsAsAStream
      × ReadsHeaderLine (remaining file) (bytes_left (λ lent. remaining lent.now) source)
      source.header
      source.is_lax
      × (source.layout ≡ None)

  -- The file is headerless video of this size and format, and all of its bytes remain.
  abbrev pub OpensAsRaw : RawVideo → Source (MutBor (InputFile F I)) → Type 0
  OpensAsRaw video source =
      IsOpened file.place Raw source
      × (source.header ≡ header_of_raw video) × (source.layout ≡ layout_in (Some video.format))
      × (bytes_left (λ lent. remaining lent.now) source ≡ remaining file)

-- A stream was opened, in the format that the option `--raw` gives if it is given.
abbrev pub OpensAs : {F I : Type 0} → (InputFile F I → Option (List ℕ)) → Option RawVideo
    → InputFile F I → Source (MutBor (InputFile F I)) → Type 0
OpensAs remaining None file source = OpensAsY4m remaining file source
OpensAs remaining (Some video) file source = OpensAsRaw remaining file video source

-- The file with this name was opened as a stream, in the format that the option `--raw` gives if it
-- is given. The bytes `left` of it remain.
pub record OpensFile {F I : Type 0} (files : F → Option (List ℕ)) (standard : I → Option (List ℕ))
    (name : List ℕ) (input : Option I) (raw : Option RawVideo) (left : Option (List ℕ))
    (source : Source (MutBor (InputFile F I))) : Type 0 where
  pub file : InputFile F I
  pub named : IsInputOf standard name input (bytes_of_input files standard file)
  pub opened : OpensAs (bytes_of_input files standard) raw file source
  pub are_left : left ≡ bytes_left (λ lent. bytes_of_input files standard lent.now) source

-- The length of the shortest line before a frame, in bytes.
abbrev pub shortest_line : Container → ℕ
shortest_line Y4m = 6
shortest_line Raw = 0

-- The number of frames of `size` bytes in a file of this length.
abbrev pub expected_of : ℕ → Option ℕ → Option ℕ
expected_of size None = None
expected_of size (Some len) = if nat_lt 0 size then Some (len / size) else None
