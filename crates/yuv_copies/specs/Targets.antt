-- The kind of file that a copy is.
use Rattle.std.specs.Prelude.{Bool, true, false}
use Rattle.yuv_files.specs.declared.kind.FileKind.{FileKind}
use Rattle.yuv_files.specs.declared.kind.FileKind.TheVariants.{Y4m, Raw}

-- The copy is headerless video if `--raw-output` is given, and a YUV4MPEG2 stream otherwise.
abbrev pub kind_of_copy : Bool → FileKind
kind_of_copy true = Raw
kind_of_copy false = Y4m
