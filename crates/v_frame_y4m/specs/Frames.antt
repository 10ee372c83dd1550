-- The number of bytes of a frame.
use Rattle.std.specs.Prelude.{ℕ, ◌==◌, if◌then◌else◌}
use Rattle.v_frame_planar.specs.Planar.{byte_count}
use Rattle.v_frame_planar.specs.Video.{chroma_sizes_of}
use Rattle.v_frame_y4m.specs.Color.{depth_of, subsampling_of}
use Rattle.v_frame_y4m.specs.declared.header.StreamHeader.{StreamHeader}

-- The number of bytes of a sample with this bit depth.
abbrev pub pixel_bytes : ℕ → ℕ
pixel_bytes depth = if depth == 8 then 1 else 2

-- The number of bytes of each frame of a stream, without the line in front of it.
abbrev pub frame_byte_count : StreamHeader → ℕ
frame_byte_count h =
    let chroma = chroma_sizes_of (subsampling_of h.color) h.width h.height in
    byte_count (pixel_bytes (depth_of h.color)) ((h.width, h.height), (chroma, chroma))
