-- The reports on the file that a command reads. The stream was opened as the option `--raw`
-- specifies, and the report is about this stream.
use Rattle.std.specs.Prelude.{ℕ, ◌≡◌, ◌≢◌, ◌^◌, false, true, List, Option}
use Rattle.std.specs.Borrow.{MutBor}
use Rattle.std.specs.Io.KnownBytes.{Appends}
use Rattle.v_frame.specs.Prelude.{one_byte, two_bytes}
use Rattle.v_frame_streams.specs.Prelude.{bytes_left, sizes_in}
use Rattle.v_frame_streams.specs.declared.source.Source.{Source}
use Rattle.v_frame_y4m.specs.Color.{depth_of}
use Rattle.v_frame_y4m.specs.Frames.{pixel_bytes}
use Rattle.yuv_facts.specs.Checksums.{SumsFrom}
use Rattle.yuv_facts.specs.Facts.{stream_facts}
use Rattle.yuv_facts.specs.Info.{ReportsStream}
use Rattle.yuv_facts.specs.Statistics.{ReportsValues}
use Rattle.yuv_system.specs.Headers.{used_range}
use Rattle.yuv_system.specs.Inputs.{OpensFile}
use Rattle.yuv_system.specs.declared.input_file.InputFile.{InputFile}
use Rattle.yuv_words.specs.declared.command.Call.{Call}

-- `has` and `has'` are the bytes of standard output before and after the command. `left` has the
-- bytes of the first file after its header, and `rest` those that were not read.
module _ {F I : Type 0} (files : F → Option (List ℕ)) (standard : I → Option (List ℕ))
    (call : Call) (input : Option I) (has has' : Option (List ℕ)) where
  abbrev pub Opens : Option (List ℕ) → Source (MutBor (InputFile F I)) → Type 0
  Opens left source = OpensFile files standard call.first.now input call.options.raw left source

  -- The report of `info`. The length of the file may be known.
  pub record ReportsInput : Type 0 where
    pub left : Option (List ℕ)
    pub source : Source (MutBor (InputFile F I))
    pub opened : Opens left source
    pub rest : Option (List ℕ)
    pub len : Option ℕ
    pub header : call.options.header ≡ true
        → Appends has has' (stream_facts source.header source.frame_len len)
    pub counted : call.options.header ≡ false → ReportsStream source.container source.header
        source.frame_len len left rest has has'

  -- The report of `sum`.
  pub record SumsInput : Type 0 where
    pub left : Option (List ℕ)
    pub source : Source (MutBor (InputFile F I))
    pub opened : Opens left source
    pub rest : Option (List ℕ)
    pub found : ℕ
    pub sums : SumsFrom source.container source.frame_len left rest has has' call.options
        (pixel_bytes (depth_of source.header.color)) (sizes_in source.header) found

  -- The report of `stats`. Samples have one byte for a depth of 8 bits, and two bytes for others.
  pub record ReportsValuesOfInput : Type 0 where
    pub left : Option (List ℕ)
    pub source : Source (MutBor (InputFile F I))
    pub opened : Opens left source
    pub rest : Option (List ℕ)
    pub found : ℕ
    pub bytes : depth_of source.header.color ≡ 8 → ReportsValues one_byte (256 ^ 1)
        source.container source.frame_len source.layout (sizes_in source.header) left rest has
        has' call.options (used_range call.options.range source.header)
        (depth_of source.header.color) found
    pub words : depth_of source.header.color ≢ 8 → ReportsValues two_bytes (256 ^ 2)
        source.container source.frame_len source.layout (sizes_in source.header) left rest has
        has' call.options (used_range call.options.range source.header)
        (depth_of source.header.color) found
