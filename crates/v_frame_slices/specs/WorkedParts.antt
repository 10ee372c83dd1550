-- The parts of a frame, calculated by hand. Each example is proved by computation (`refl`).
use Rattle.std.specs.Prelude.{◌≡◌, ◌+◌, refl}
use Rattle.v_frame_slices.specs.FrameParts.{chroma_in, evenly_bordered, frame_parts, frame_status, luma_in, size_of}
use Rattle.v_frame_slices.specs.declared.frame_parts.FrameRequest.{FrameRequest}

-- A frame of 5 by 3 pixels in 4:2:0 with a padding of 1, which the ratio increases to 2.
abbrev small : FrameRequest
small = record { width = 5; height = 3; padding = 1; format = 1 }

its_luma : luma_in small (2, 2) ≡ evenly_bordered 5 3 2 2
its_luma = refl

its_chroma : chroma_in small (2, 2) ≡ evenly_bordered 3 2 1 1
its_chroma = refl

luma_entries : size_of (luma_in small (2, 2)) ≡ 63
luma_entries = refl

last_plane : (frame_parts small).v.offset ≡ 63 + 20
last_plane = refl

no_format : frame_status (record small { format = 5 }) ≡ 4
no_format = refl
