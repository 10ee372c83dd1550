-- The picture and the numbers that `diff` calculates from two frames.
use Rattle.std.specs.Prelude.{ℕ, ◌≡◌, ◌+◌, ◌*◌, ◌≤◌, List, Option, unwrap_or}
use Rattle.std.specs.Int.NonZero.{non_zero_u8_get}
use Rattle.v_frame.specs.Prelude.{Frame, PixelForm, Tables, tables_of}
use Rattle.v_frame_png.specs.Prelude.{HasFile}
use Rattle.yuv_pictures.specs.Prelude.{difference_rows, gray_samples, picture_header, AreDifferences}
use Rattle.yuv_pictures.specs.declared.places.Found.{Found}
use Rattle.yuv_system.specs.Options.{most_pixels}
use Rattle.v_frame_streams.specs.Comparisons.{Pair}
use Rattle.v_frame_streams.specs.Prelude.{ReadsBehind, Stream}
use Rattle.yuv_words.specs.declared.command.Options.{Options as OptionWords}

-- The writer got the picture of the difference of two frames with these tables, multiplied by a
-- gain, and `found` has the differences in numbers.
pub record DrawsDifference {T W : Type 0} (form : PixelForm T) (contents : W → Option (List ℕ))
    (start : Option (List ℕ)) (gain : ℕ) (a b : Tables T) (new : W) (found : Found) : Type 0 where
  pub first : Frame T
  pub second : Frame T
  pub shows : tables_of first ≡ a
  pub also_shows : tables_of second ≡ b
  pub file : HasFile contents start new
      (picture_header first.y_plane.geometry.width first.y_plane.geometry.height
      (gray_samples (non_zero_u8_get first.bit_depth)))
      (difference_rows form first second gain)
  pub differs : AreDifferences form a b found

-- The requested frames of both streams were read, and their difference was written.
pub record DrawsFrames {T W : Type 0} (form : PixelForm T) (contents : W → Option (List ℕ))
    (start : Option (List ℕ)) (options : OptionWords) (one other : Stream)
    (left left' right right' : Option (List ℕ)) (new : W) (found : Found) : Type 0 where
  pub before : ℕ
  pub number : before + 1 ≡ unwrap_or options.frame 1
  pub small : one.header.width * one.header.height ≤ most_pixels options.max_pixels
  pub pair : Pair T
  pub first : ReadsBehind form before one left left' pair.0
  pub second : ReadsBehind form before other right right' pair.1
  pub drawn : DrawsDifference form contents start (unwrap_or options.gain 8) pair.0 pair.1 new found
