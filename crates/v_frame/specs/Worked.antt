-- Small cases with the results computed by hand. Each equation is proved by computation (`refl`).
use Rattle.std.specs.Prelude.{ℕ, ◌≡◌, List, [], ◌∷◌, Some, None, Ok, Err, refl}
use Rattle.v_frame_raster.specs.Pixel.{byte_of, value_of_bytes, one_byte}
use Rattle.v_frame_raster.specs.Geometry.{Geometry, geometry_of, stride_of, alloc_height_of, alloc_size_of, origin_of}
use Rattle.v_frame_raster.specs.Geometry.{place_of}
use Rattle.v_frame_raster.specs.Raster.{Raster, raster, table_of, border_of, options_of}
use Rattle.v_frame_raster.specs.Chroma.{chroma_size_of, subsampled}
use Rattle.v_frame.specs.Build.{FrameRequest, refusal_of}
use Rattle.v_frame.specs.Frame.{Tables}
use Rattle.v_frame.specs.Replay.{answers_to, tables_after}
use Rattle.v_frame_raster.specs.declared.chroma.ChromaSubsampling.{ChromaSubsampling}
use Rattle.v_frame_raster.specs.declared.chroma.ChromaSubsampling.TheVariants.{Yuv420, Yuv422, Yuv411, Yuv444}
use Rattle.v_frame_raster.specs.declared.chroma.ChromaSubsampling.TheVariants.{Monochrome}
use Rattle.v_frame.specs.declared.frame.error.FrameError.TheVariants.{UnsupportedBitDepth, DataTypeMismatch}
use Rattle.v_frame.specs.declared.frame.error.FrameError.TheVariants.{UnsupportedResolution}
use Rattle.v_frame_plane.specs.declared.error.CopyError.TheVariants.{DataLength}
use Rattle.v_frame.specs.declared.replay.call.VisibleCall.{VisibleCall}
use Rattle.v_frame.specs.declared.replay.call.VisibleCall.TheVariants.{Width, Row, RowMut, Pixel, PixelMut}
use Rattle.v_frame.specs.declared.replay.call.VisibleCall.TheVariants.{CopyFromSlice}
use Rattle.v_frame.specs.declared.replay.answer.Answer.TheVariants.{NoPlane, OutsideRectangle, RowShown, PixelShown}
use Rattle.v_frame.specs.declared.replay.answer.Answer.TheVariants.{Copied}

-- The bytes of 0x0102 are 2 and 1, in little-endian order.
low_byte : byte_of 258 0 ≡ 2
low_byte = refl

high_byte : byte_of 258 1 ≡ 1
high_byte = refl

value_of_two_bytes : value_of_bytes (2 ∷ 1 ∷ []) ≡ 258
value_of_two_bytes = refl

-- A plane of 4 by 3 pixels, with 2 columns of border on both sides and 1 row above and below.
abbrev four_by_three : Geometry
four_by_three = geometry_of 4 3 2 2 1 1 1 1

its_stride : stride_of four_by_three ≡ 8
its_stride = refl

its_rows : alloc_height_of four_by_three ≡ 5
its_rows = refl

its_size : alloc_size_of four_by_three ≡ 40
its_size = refl

its_origin : origin_of four_by_three ≡ 10
its_origin = refl

last_place : place_of four_by_three 5 3 ≡ 39
last_place = refl

place_past_the_buffer : place_of four_by_three 6 3 ≡ 40
place_past_the_buffer = refl

-- Values as options, including the values of the border.
abbrev pair_in_a_border : {T : Type 0} → T → T → T → Raster T
pair_in_a_border border left right =
    raster (geometry_of 2 1 1 0 0 0 1 1) (border ∷ left ∷ right ∷ [])

its_options : options_of {T = ℕ} (pair_in_a_border 9 5 6)
    ≡ pair_in_a_border (Some 9) (Some 5) (Some 6)
its_options = refl

-- A plane of 3 by 2 pixels, with 1 column of border to the left, 2 columns to the right, and 1 row
-- above.
abbrev three_by_two : Raster ℕ
three_by_two = raster (geometry_of 3 2 1 2 1 0 1 1) (
    20 ∷ 21 ∷ 22 ∷ 23 ∷ 24 ∷ 25 ∷
    26 ∷ 1 ∷ 2 ∷ 3 ∷ 27 ∷ 28 ∷
    29 ∷ 4 ∷ 5 ∷ 6 ∷ 30 ∷ 31 ∷ [])

its_table : table_of three_by_two ≡ (1 ∷ 2 ∷ 3 ∷ []) ∷ (4 ∷ 5 ∷ 6 ∷ []) ∷ []
its_table = refl

its_border : border_of three_by_two
    ≡ (20 ∷ 21 ∷ 22 ∷ 23 ∷ 24 ∷ 25 ∷ []) ∷ (26 ∷ []) ∷ (27 ∷ 28 ∷ []) ∷ (29 ∷ []) ∷ (30 ∷ 31 ∷ [])
    ∷ []
its_border = refl

-- Sizes and paddings are divided if the divisions are exact. Otherwise the geometry is rejected.
halved_size : chroma_size_of Yuv420 1920 1080 ≡ Some (960, 540)
halved_size = refl

odd_size : chroma_size_of Yuv422 1921 1080 ≡ None
odd_size = refl

halved_columns : subsampled Yuv422 (geometry_of 1920 1080 10 10 40 15 1 1)
    ≡ Ok (Some (geometry_of 960 1080 5 5 40 15 2 1))
halved_columns = refl

odd_padding : subsampled Yuv420 (geometry_of 1920 1080 10 10 40 15 1 1) ≡ Err (record {})
odd_padding = refl

quarter_size : chroma_size_of Yuv411 8 3 ≡ Some (2, 3)
quarter_size = refl

quarter_columns : subsampled Yuv411 (geometry_of 960 540 20 16 10 5 2 2)
    ≡ Ok (Some (geometry_of 240 540 5 4 10 5 4 1))
quarter_columns = refl

padding_without_a_quarter : subsampled Yuv411 (geometry_of 960 540 20 15 10 5 2 2) ≡ Err (record {})
padding_without_a_quarter = refl

full_size : subsampled Yuv444 (geometry_of 17 41 1 0 0 3 2 2)
    ≡ Ok (Some (geometry_of 17 41 1 0 0 3 2 2))
full_size = refl

-- The reasons why a frame cannot be built, in the order of the checks.
abbrev unpadded : ℕ → ℕ → ChromaSubsampling → ℕ → FrameRequest
unpadded width height subsampling depth =
    record {
      width = width;
      height = height;
      subsampling = subsampling;
      bit_depth = depth;
      pad_left = 0;
      pad_right = 0;
      pad_top = 0;
      pad_bottom = 0;
    }

depth_decides_first : refusal_of 2 (unpadded 0 1080 Yuv420 17) ≡ Some (UnsupportedBitDepth 17)
depth_decides_first = refl

type_decides_next : refusal_of 1 (unpadded 0 1080 Monochrome 10) ≡ Some DataTypeMismatch
type_decides_next = refl

size_decides_last : refusal_of 1 (unpadded 0 1080 Yuv420 8) ≡ Some UnsupportedResolution
size_decides_last = refl

no_quarter : refusal_of 1 (unpadded 6 2 Yuv411 8) ≡ Some UnsupportedResolution
no_quarter = refl

too_wide : refusal_of 1 (unpadded 4611686018427387904 1 Monochrome 8) ≡ Some UnsupportedResolution
too_wide = refl

just_fits : refusal_of 1 (unpadded 4611686018427387903 1 Monochrome 8) ≡ None
just_fits = refl

-- A list of calls on a plane of 3 by 2 zeros.
abbrev blank : Tables ℕ
blank = record { y = (0 ∷ 0 ∷ 0 ∷ []) ∷ (0 ∷ 0 ∷ 0 ∷ []) ∷ []; u = None; v = None }

abbrev six_calls : List (VisibleCall ℕ)
six_calls =
    CopyFromSlice 0 (1 ∷ 2 ∷ 3 ∷ 4 ∷ 5 ∷ []) ∷ CopyFromSlice 0 (1 ∷ 2 ∷ 3 ∷ 4 ∷ 5 ∷ 6 ∷ [])
    ∷ Pixel 0 2 1 ∷ Pixel 0 3 0 ∷ Row 0 2 ∷ Width 1 ∷ []

six_answers : answers_to one_byte six_calls blank
    ≡ Copied (Err (DataLength 6 5)) ∷ Copied (Ok tt) ∷ PixelShown 6 ∷ OutsideRectangle
    ∷ RowShown None ∷ NoPlane ∷ []
six_answers = refl

table_left : (tables_after one_byte six_calls blank).y ≡ (1 ∷ 2 ∷ 3 ∷ []) ∷ (4 ∷ 5 ∷ 6 ∷ []) ∷ []
table_left = refl

-- Writes with gaps and past the end of a row, and replaced pixels, on the table after these calls.
abbrev two_writes : List (VisibleCall ℕ)
two_writes =
    RowMut 0 0 (None ∷ Some 8 ∷ None ∷ Some 5 ∷ []) ∷ PixelMut 0 2 1 9 ∷ PixelMut 0 3 0 7 ∷ []

old_pixels : answers_to one_byte two_writes (tables_after one_byte six_calls blank)
    ≡ RowShown (Some (1 ∷ 2 ∷ 3 ∷ [])) ∷ PixelShown 6 ∷ OutsideRectangle ∷ []
old_pixels = refl

short_and_below : (tables_after one_byte (RowMut 0 1 (Some 7 ∷ []) ∷ RowMut 0 2 (Some 8 ∷ [])
    ∷ []) (tables_after one_byte six_calls blank)).y ≡ (1 ∷ 2 ∷ 3 ∷ []) ∷ (7 ∷ 5 ∷ 6 ∷ []) ∷ []
short_and_below = refl

new_pixels : (tables_after one_byte two_writes (tables_after one_byte six_calls blank)).y
    ≡ (1 ∷ 8 ∷ 3 ∷ []) ∷ (4 ∷ 5 ∷ 9 ∷ []) ∷ []
new_pixels = refl
