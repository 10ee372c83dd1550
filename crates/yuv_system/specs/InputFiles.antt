-- An input file whose first bytes are inspected before they are read.
use Rattle.std.specs.Prelude.{ℕ, ◌≡◌, codes, List, Option, slice_range, take, IsSomeAnd}
use Rattle.std.specs.Io.KnownBytes.{prepend_known}
use Rattle.v_frame_y4m.specs.Header.{signature}
use Rattle.yuv_system.specs.declared.input_file.InputFile.{InputFile}
use Rattle.yuv_system.specs.declared.input_file.Reader.{Reader}
use Rattle.yuv_system.specs.declared.input_file.Reader.TheVariants.{File, Standard}

module _ {F I : Type 0} where
  -- All inspected bytes have been read.
  abbrev pub IsReadOn : InputFile F I → Type 0
  IsReadOn input = input.given ≡ input.known

  module _ (file : F → Option (List ℕ)) (standard : I → Option (List ℕ)) where
    -- The remaining bytes of a file or of standard input, if they are known.
    abbrev pub bytes_of_reader : Reader F I → Option (List ℕ)
    bytes_of_reader (File inner) = file inner
    bytes_of_reader (Standard inner) = standard inner

    -- The bytes that are still to be read: the rest of the inspected bytes, followed by the
    -- remaining bytes of the file.
    abbrev pub bytes_of_input : InputFile F I → Option (List ℕ)
    bytes_of_input input =
        prepend_known (slice_range input.first input.given input.known)
        (bytes_of_reader input.reader.inner)

-- If the name of a file is `-`, its bytes are those of standard input, from which nothing was read.
abbrev pub IsInputOf : {I : Type 0} → (I → Option (List ℕ)) → List ℕ → Option I
    → Option (List ℕ) → Type 0
IsInputOf remaining name input bytes =
    name ≡ codes "-" → IsSomeAnd input (λ standard. bytes ≡ remaining standard)

-- The bytes begin as those of a YUV4MPEG2 stream do.
abbrev pub BeginsAsAStream : List ℕ → Type 0
BeginsAsAStream bytes = take 9 bytes ≡ signature
