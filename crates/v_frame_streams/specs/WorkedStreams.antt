-- Small examples worked out by hand. Each is proved by computation (`refl`).
use Rattle.std.specs.Prelude.{ℕ, ◌≡◌, ◌<◌, [], ◌∷◌, List, Option, Some, None, true, false, refl}
use Rattle.v_frame_y4m.specs.declared.color.Color.TheVariants.{Yuv420, Yuv420Mpeg2, Yuv422}
use Rattle.v_frame_y4m.specs.declared.error.Y4mError.TheVariants.{Planar}
use Rattle.v_frame_streams.specs.Conversions.{color_in}
use Rattle.v_frame_streams.specs.Copies.{kept, taken, RefusesCopy}
use Rattle.v_frame_streams.specs.Crops.{IsTakable}
use Rattle.v_frame_streams.specs.Edits.{beside, halved_size}
use Rattle.v_frame_streams.specs.Errors.{cause_of, FailsToWrite, HasCause, RefusesPicture, StopsFrame}
use Rattle.std.specs.declared.io.ErrorKind.TheVariants.{TimedOut}
use Rattle.v_frame.specs.Prelude.{one_byte, two_bytes, Tables}
use Rattle.v_frame_planar.specs.Counted.{Watched}
use Rattle.v_frame_planar.specs.declared.error.PlanarError.TheVariants.{Read, Truncated, Write}
use Rattle.v_frame_semi_planar.specs.declared.format.SemiPlanarFormat.TheVariants.{Nv12, Nv21}
use Rattle.v_frame_semi_planar.specs.declared.format.SemiPlanarFormat.TheVariants.{P010}
use Rattle.v_frame_streams.specs.Pictures.{tables_of_bytes, Sizes}
use Rattle.v_frame_streams.specs.Streams.{stream_bytes, written_bytes}
use Rattle.v_frame_streams.specs.declared.error.Problem.TheVariants.{EmptyCrop, Stream, TooManyPixels}
use Rattle.v_frame_streams.specs.declared.error.Problem.TheVariants.{SemiPlanar as NoSemiPlanar}
use Rattle.v_frame_streams.specs.declared.options.CopyOptions.{CopyOptions}
use Rattle.v_frame_streams.specs.declared.stream.Container.TheVariants.{Raw, Y4m}
use Rattle.v_frame_formats.specs.Sums.{added}
use Rattle.v_frame_formats.specs.declared.format.VideoFormat.TheVariants.{Planar, SemiPlanar}
use Rattle.v_frame_y4m.specs.declared.header.StreamHeader.{StreamHeader}

-- Half of 854 columns are 427, and half of these are 214, rounded up.
half_of_even : halved_size true 854 ≡ 427
half_of_even = refl

half_of_odd : halved_size true 427 ≡ 214
half_of_odd = refl

-- The chroma of 5 luma columns from column 2 on, at half the width, has 3 columns.
chroma_beside : beside (2, 2) (record { x = 2; y = 4; width = 5; height = 2 })
    ≡ record { x = 1; y = 2; width = 3; height = 1 }
chroma_beside = refl

-- Of three frames, the first is skipped and one is copied.
taken_frames : kept
    (record {
      skip = 1;
      count = Some 1;
      crop = None;
      half = false;
      format = None;
      frame_rate = None;
      pixel_aspect = None;
      max_pixels = 9;
    })
    (([], 1 ∷ []) ∷ ([], 2 ∷ []) ∷ ([], 3 ∷ []) ∷ [])
    ≡ ([], 2 ∷ []) ∷ []
taken_frames = refl

-- A YUV4MPEG2 stream takes no frames in NV12, whatever the source is.
abbrev to_nv12 : CopyOptions
to_nv12 = record {
  skip = 0;
  count = None;
  crop = None;
  half = false;
  format = Some (SemiPlanar Nv12);
  frame_rate = None;
  pixel_aspect = None;
  max_pixels = 9;
}

nv12_is_rejected : (header : StreamHeader) → IsTakable (taken to_nv12 header) header
    → RefusesCopy Y4m to_nv12 header NoSemiPlanar
nv12_is_rejected header takable = (takable, refl, refl)

-- If the chroma format does not change, the siting of the source is kept.
siting_stays : color_in (Some (Planar Yuv420)) Yuv420Mpeg2 ≡ Yuv420Mpeg2
siting_stays = refl

other_chroma_is_named : color_in (Some (Planar Yuv422)) Yuv420Mpeg2 ≡ Yuv422
other_chroma_is_named = refl

-- A frame of raw video is only its bytes.
raw_frames : stream_bytes Raw (([], 1 ∷ 2 ∷ []) ∷ ([], 3 ∷ 4 ∷ []) ∷ []) ≡ 1 ∷ 2 ∷ 3 ∷ 4 ∷ []
raw_frames = refl

raw_frame_written : written_bytes Raw (1 ∷ 2 ∷ []) ≡ 1 ∷ 2 ∷ []
raw_frame_written = refl

-- A picture of 3 by 2 luma pixels and 2 by 1 chroma pixels.
abbrev sizes : Sizes
sizes = ((3, 2), (Some (2, 1), Some (2, 1)))

abbrev picture : Tables ℕ
picture = record {
  y = (1 ∷ 2 ∷ 3 ∷ []) ∷ (4 ∷ 5 ∷ 6 ∷ []) ∷ [];
  u = Some ((10 ∷ 11 ∷ []) ∷ []);
  v = Some ((20 ∷ 21 ∷ []) ∷ []);
}

planar_shown : tables_of_bytes one_byte None sizes
    (1 ∷ 2 ∷ 3 ∷ 4 ∷ 5 ∷ 6 ∷ 10 ∷ 11 ∷ 20 ∷ 21 ∷ [])
    ≡ picture
planar_shown = refl

nv12_shown : tables_of_bytes one_byte (Some Nv12) sizes
    (1 ∷ 2 ∷ 3 ∷ 4 ∷ 5 ∷ 6 ∷ 10 ∷ 20 ∷ 11 ∷ 21 ∷ [])
    ≡ picture
nv12_shown = refl

nv21_shown : tables_of_bytes one_byte (Some Nv21) sizes
    (1 ∷ 2 ∷ 3 ∷ 4 ∷ 5 ∷ 6 ∷ 20 ∷ 10 ∷ 21 ∷ 11 ∷ [])
    ≡ picture
nv21_shown = refl

-- A picture of 1 by 1 pixels, with 10 bits in the top bits of 16-bit words.
p010_shown : tables_of_bytes two_bytes (Some P010) ((1, 1), (Some (1, 1), Some (1, 1)))
    (192 ∷ 255 ∷ 64 ∷ 0 ∷ 0 ∷ 1 ∷ [])
    ≡ record {
      y = (1023 ∷ []) ∷ [];
      u = Some ((1 ∷ []) ∷ []);
      v = Some ((4 ∷ []) ∷ []);
    }
p010_shown = refl

-- The last system error is the cause of a failed read, and of no other problem.
failed_read_has_a_cause : cause_of (Stream (Planar Read)) (Some TimedOut) ≡ Some TimedOut
failed_read_has_a_cause = refl

end_inside_a_frame_has_none : cause_of (Stream (Planar (Truncated 6 4))) (Some TimedOut) ≡ None
end_inside_a_frame_has_none = refl

empty_crop_has_none : cause_of EmptyCrop (Some TimedOut) ≡ None
empty_crop_has_none = refl

failed_read_needs_a_cause : HasCause (Stream (Planar Read)) (Some TimedOut)
failed_read_needs_a_cause = refl

empty_crop_needs_none : HasCause EmptyCrop None
empty_crop_needs_none = refl

-- A picture of 4 by 3 pixels has more than 10.
above_the_limit : 10 < 12 → RefusesPicture 10 1 4 3 Yuv420 (TooManyPixels 10)
above_the_limit more = (refl, more)

-- The contents of a writer that are known.
abbrev written : Option (List ℕ) → Option (List ℕ)
written bytes = bytes

abbrev writer : Option (List ℕ) → ℕ → Watched (Option (List ℕ))
writer bytes failures = record { inner = bytes; failures = failures; last_failure = None }

-- The first of two bytes was written, and the next write failed.
half_written : 1 < 2 → FailsToWrite written (writer (Some []) 0) (writer (Some (70 ∷ [])) 1) (70 ∷ 71 ∷ [])
    (Stream (Planar Write))
half_written fewer = ((1, fewer, refl), refl)

-- The stream ended after two of six bytes.
broken_frame : 2 < 6 → 0 < 2 → StopsFrame Raw (record { bytes = Some (70 ∷ 71 ∷ []); failures = 0 })
    (record { bytes = Some []; failures = 0 }) 6 (Stream (Planar (Truncated 6 2)))
broken_frame less some = (refl, less, λ _. some, ([], 70 ∷ 71 ∷ []), refl, refl, refl, refl)

-- One read failed.
failed_frame : StopsFrame Raw (record { bytes = Some (70 ∷ []); failures = 2 })
    (record { bytes = None; failures = 3 }) 6 (Stream (Planar Read))
failed_frame = (refl, refl)

-- Chroma sums are added if both frames have chroma.
sums_are_added : added (record { y = 1; u = Some 2; v = None })
    (record { y = 3; u = Some 4; v = Some 5 })
    ≡ record { y = 4; u = Some 6; v = None }
sums_are_added = refl
