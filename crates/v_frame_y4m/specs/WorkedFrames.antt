-- Colors and numbers of bytes worked out by hand. Each is proved by computation (`refl`).
use Rattle.std.specs.Prelude.{◌≡◌, ◌+◌, ◌*◌, Some, None, refl}
use Rattle.v_frame.specs.Prelude.{Yuv420 as Half, Yuv422 as Wide, Yuv411 as Quarter}
use Rattle.v_frame_planar.specs.Planar.{byte_count}
use Rattle.v_frame_planar.specs.Video.{chroma_sizes_of}
use Rattle.v_frame_y4m.specs.Color.{color_with}
use Rattle.v_frame_y4m.specs.Frames.{pixel_bytes}
use Rattle.v_frame_y4m.specs.declared.color.Depth.TheVariants.{Ten}
use Rattle.v_frame_y4m.specs.declared.color.ChromaSiting.TheVariants.{Center, Left}
use Rattle.v_frame_y4m.specs.declared.color.Color.TheVariants.{Yuv420Jpeg, Yuv422HighDepth}

centered : color_with Half 8 (Some Center) ≡ Some Yuv420Jpeg
centered = refl

-- 8-bit 4:2:0 has a siting, and no other color has one.
without_a_siting : color_with Half 8 None ≡ None
without_a_siting = refl

deep_with_a_siting : color_with Half 10 (Some Left) ≡ None
deep_with_a_siting = refl

wide : color_with Wide 10 None ≡ Some (Yuv422HighDepth Ten)
wide = refl

deep_quarter : color_with Quarter 10 None ≡ None
deep_quarter = refl

eleven_bits : color_with Wide 11 None ≡ None
eleven_bits = refl

-- 5 by 3 pixels of 4:2:0 with 10 bits.
two_planes_cover_luma : let chroma = chroma_sizes_of Half 5 3 in
    byte_count (pixel_bytes 10) ((5, 3), (chroma, chroma)) ≡ 2 * (5 * 3 + 2 * (3 * 2))
two_planes_cover_luma = refl
