-- The checksums of frames.
use Rattle.std.specs.Prelude.{ℕ, ◌≡◌, ◌+◌, ◌≤◌, ◌⊎◌, ◌∷◌, ◌++◌, [], Bool, true, false, List, Option, Some, None, drop, length, min, take, unwrap_or}
use Rattle.std.specs.Io.KnownBytes.{Appends, IsAtEnd}
use Rattle.v_frame_planar.specs.Planar.{plane_byte_count}
use Rattle.v_frame_bytes.specs.Crc.{crc32}
use Rattle.yuv_reports.specs.declared.samples.Checksums.{Checksums}
use Rattle.yuv_reports.specs.declared.samples.Checksums.TheVariants.{Frame, Planes}
use Rattle.yuv_reports.specs.Samples.{checksums_line}
use Rattle.v_frame_streams.specs.Prelude.{most_frames, CountsFrames, Framed, ReadsFrames, Sizes}
use Rattle.v_frame_streams.specs.declared.stream.Container.{Container}
use Rattle.yuv_words.specs.declared.command.Options.{Options as OptionWords}

-- The checksums of the bytes of a frame: the CRC-32 of all bytes, or of each plane. The bytes of Y
-- come first, followed by those of U and V if there is chroma.
abbrev pub checksums_of : Bool → ℕ → Sizes → List ℕ → Checksums
checksums_of false count sizes bytes = Frame (crc32 bytes)
checksums_of true count sizes bytes = planes_of sizes.1.0 where
  y : ℕ
  y = plane_byte_count count (Some sizes.0)

  planes_of : Option (ℕ × ℕ) → Checksums
  planes_of None = Planes (crc32 (take y bytes)) None
  planes_of (Some u) =
      let chroma = drop y bytes in
      let size = plane_byte_count count (Some u) in
      Planes (crc32 (take y bytes)) (Some (crc32 (take size chroma), crc32 (drop size chroma)))

-- The lines of frames. In the stream, `before` frames precede the first one.
abbrev pub checksum_lines : Bool → ℕ → Sizes → ℕ → List Framed → List ℕ
checksum_lines planes count sizes before [] = []
checksum_lines planes count sizes before (frame ∷ frames) =
    checksums_line (min (before + 1) most_frames) (checksums_of planes count sizes frame.1)
    ++ checksum_lines planes count sizes (before + 1) frames

-- The frames that were read are at most `most`, and fewer only if the stream ends. A line for each
-- of them was written.
pub record SumsFrames (from : Container) (frame_len : ℕ) (left left' has has' : Option (List ℕ))
    (planes : Bool) (count : ℕ) (sizes : Sizes) (before most found : ℕ) : Type 0 where
  pub frames : List Framed
  pub read : ReadsFrames left left' from frame_len frames
  pub counted : length frames ≡ found
  pub bound : found ≤ most
  pub ends : (found ≡ most) ⊎ IsAtEnd left'
  pub written : Appends has has' (checksum_lines planes count sizes before frames)

-- The skipped frames were read, and then the selected frames, each of which has a line.
pub record SumsFrom (from : Container) (frame_len : ℕ) (left left' has has' : Option (List ℕ))
    (options : OptionWords) (count : ℕ) (sizes : Sizes) (found : ℕ) : Type 0 where
  pub start : Option (List ℕ)
  pub passed : ℕ
  pub skipped : CountsFrames left start from frame_len (unwrap_or options.skip 0) passed
  pub summed : SumsFrames from frame_len start left' has has' options.planes count sizes
      (unwrap_or options.skip 0) (unwrap_or options.count most_frames) found
