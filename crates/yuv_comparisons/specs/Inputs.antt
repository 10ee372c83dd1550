-- The result of `compare` for the two files that it reads.
use Rattle.std.specs.Prelude.{ℕ, ◌≡◌, ◌≢◌, ◌<◌, ◌↔◌, codes, IsNone, List, Option, None}
use Rattle.std.specs.Borrow.{MutBor}
use Rattle.v_frame.specs.Prelude.{one_byte, two_bytes}
use Rattle.v_frame_streams.specs.Prelude.{sizes_in, stream_of, ComparesFrom}
use Rattle.v_frame_streams.specs.declared.comparison.Comparison.{Comparison}
use Rattle.v_frame_streams.specs.declared.source.Source.{Source}
use Rattle.v_frame_y4m.specs.Color.{depth_of}
use Rattle.yuv_system.specs.Inputs.{OpensFile}
use Rattle.yuv_system.specs.Options.{comparison_of}
use Rattle.yuv_system.specs.declared.input_file.InputFile.{InputFile}
use Rattle.yuv_system.specs.declared.status.Status.{Status}
use Rattle.yuv_system.specs.declared.status.Status.TheVariants.{Failed, Same}
use Rattle.yuv_words.specs.declared.command.Call.{Call}

-- Both files were opened, each in the format that its option `--raw` or `--raw-second` gives, with
-- the bytes `left` and `other_left` after their headers. The streams were compared as the options
-- specify, and the exit status states the result.
pub record ComparesInputs {F I : Type 0} (files : F → Option (List ℕ))
    (standard : I → Option (List ℕ)) (call : Call) (input : Option I) (status : Status)
    : Type 0 where
  pub left : Option (List ℕ)
  pub first : Source (MutBor (InputFile F I))
  pub opened : OpensFile files standard call.first.now input call.options.raw left first
  pub other_left : Option (List ℕ)
  pub second : Source (MutBor (InputFile F I))
  pub behind : Option I
  pub taken : call.first.now ≡ codes "-" → behind ≡ None
  pub kept : call.first.now ≢ codes "-" → behind ≡ input
  pub other_opened : OpensFile files standard call.second.now behind call.options.raw_second
      other_left
      second
  pub rest : Option (List ℕ)
  pub other_rest : Option (List ℕ)
  pub found : Comparison
  pub some : 0 < found.frames
  pub bytes : depth_of first.header.color ≡ 8 → ComparesFrom one_byte (sizes_in first.header)
      (stream_of first) (stream_of second) left rest other_left other_rest
      (comparison_of call.options) found
  pub words : depth_of first.header.color ≢ 8 → ComparesFrom two_bytes (sizes_in first.header)
      (stream_of first) (stream_of second) left rest other_left other_rest
      (comparison_of call.options) found
  pub same : (status ≡ Same) ↔ (IsNone found.difference × IsNone found.longer)
  pub never : status ≢ Failed
