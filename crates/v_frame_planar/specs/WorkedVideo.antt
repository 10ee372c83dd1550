-- Small examples worked out by hand. Each is proved by computation (`refl`).
use Rattle.std.specs.Prelude.{◌≡◌, Some, None, refl}
use Rattle.v_frame.specs.Prelude.{Yuv420, Yuv422, Yuv411, Yuv444, Monochrome, geometry_of, refusal_of}
use Rattle.v_frame.specs.Build.{luma_geometry}
use Rattle.v_frame.specs.declared.frame.error.FrameError.TheVariants.{UnsupportedResolution}
use Rattle.v_frame_planar.specs.Video.{multiple_from, chroma_sizes_of, covering_chroma, video_request, video_refusal_of}

-- A picture of 7 by 5 pixels has 4 by 3 chroma pixels in 4:2:0.
halves_rounded_up : chroma_sizes_of Yuv420 7 5 ≡ Some (4, 3)
halves_rounded_up = refl

halves_of_columns : chroma_sizes_of Yuv422 7 5 ≡ Some (4, 5)
halves_of_columns = refl

quarters_of_columns : chroma_sizes_of Yuv411 7 5 ≡ Some (2, 5)
quarters_of_columns = refl

same_size : chroma_sizes_of Yuv444 7 5 ≡ Some (7, 5)
same_size = refl

no_chroma : chroma_sizes_of Monochrome 7 5 ≡ None
no_chroma = refl

-- A padding of 3 pixels is rounded up to 4 in luma, so that it is 2 in chroma.
luma_padding : luma_geometry (video_request 7 5 Yuv420 8 3) ≡ geometry_of 7 5 4 4 4 4 1 1
luma_padding = refl

chroma_padding : covering_chroma (video_request 7 5 Yuv420 8 3) ≡ Some (geometry_of 4 3 2 2 2 2 2 2)
chroma_padding = refl

least_multiple : multiple_from 5 4 ≡ 8
least_multiple = refl

-- The frame builder rejects an odd size, and `video_frame` accepts it.
odd_size_refused : refusal_of 1 (video_request 7 5 Yuv420 8 3) ≡ Some UnsupportedResolution
odd_size_refused = refl

odd_size_made : video_refusal_of 1 (video_request 7 5 Yuv420 8 3) ≡ None
odd_size_made = refl

no_column : video_refusal_of 1 (video_request 0 5 Yuv420 8 3) ≡ Some UnsupportedResolution
no_column = refl
