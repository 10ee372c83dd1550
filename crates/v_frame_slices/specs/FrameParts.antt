-- The planes of a frame in one buffer, one after the other. Chroma covers luma, whether or not the
-- ratio divides the size. The border of luma is as wide as requested, or wider so that the ratio
-- divides it.
use Rattle.std.specs.Prelude.{ℕ, ◌+◌, ◌*◌, Bool, ◌&&◌, if◌then◌else◌, Option, Some, None}
use Rattle.std.specs.Int.{div_ceil}
use Rattle.v_frame.specs.Prelude.{ChromaSubsampling, alloc_size_of, ratio_of, usize_max}
use Rattle.v_frame_slices.specs.Formats.{numbered_format}
use Rattle.v_frame_slices.specs.Layout.{geometry_in, is_bordered}
use Rattle.v_frame_slices.specs.declared.layout.Bordered.{Bordered}
use Rattle.v_frame_slices.specs.declared.frame_parts.FrameRequest.{FrameRequest}
use Rattle.v_frame_slices.specs.declared.frame_parts.FrameParts.{FrameParts}
use Rattle.v_frame_slices.specs.declared.frame_parts.PlanePart.{PlanePart}

-- A picture with one padding on the left and the right, and one above and below.
abbrev pub evenly_bordered : ℕ → ℕ → ℕ → ℕ → Bordered
evenly_bordered width height across down =
    record {
      width = width;
      height = height;
      pad_left = across;
      pad_right = across;
      pad_top = down;
      pad_bottom = down;
    }

-- Luma, with a border that the ratio divides.
abbrev pub luma_in : FrameRequest → ℕ × ℕ → Bordered
luma_in r ratio =
    evenly_bordered r.width r.height (div_ceil r.padding ratio.0 * ratio.0)
    (div_ceil r.padding ratio.1 * ratio.1)

-- The chroma planes of this luma.
abbrev pub chroma_in : FrameRequest → ℕ × ℕ → Bordered
chroma_in r ratio =
    evenly_bordered (div_ceil r.width ratio.0) (div_ceil r.height ratio.1)
    (div_ceil r.padding ratio.0) (div_ceil r.padding ratio.1)

abbrev pub size_of : Bordered → ℕ
size_of b = alloc_size_of (geometry_in b)

-- A plane that begins at an index of the buffer, and a missing plane.
abbrev pub part_at : ℕ → Bordered → PlanePart
part_at offset b = record { offset = offset; count = size_of b; layout = b }

abbrev pub no_part : PlanePart
no_part =
    record {
      offset = 0;
      count = 0;
      layout = evenly_bordered 0 0 0 0;
    }

-- The parts of a frame without chroma, and of a frame with chroma.
abbrev pub luma_parts : Bordered → FrameParts
luma_parts luma =
    record { y = part_at 0 luma; u = no_part; v = no_part; count = size_of luma }

abbrev pub all_parts : Bordered → Bordered → FrameParts
all_parts luma chroma =
    record {
      y = part_at 0 luma;
      u = part_at (size_of luma) chroma;
      v = part_at (size_of luma + size_of chroma) chroma;
      count = size_of luma + size_of chroma + size_of chroma;
    }

abbrev pub parts_by : FrameRequest → Option (ℕ × ℕ) → FrameParts
parts_by r None = luma_parts (luma_in r (1, 1))
parts_by r (Some ratio) = all_parts (luma_in r ratio) (chroma_in r ratio)

-- Whether each plane can be addressed.
abbrev pub fits_by : FrameRequest → Option (ℕ × ℕ) → Bool
fits_by r None = is_bordered (luma_in r (1, 1)) usize_max
fits_by r (Some ratio) =
    is_bordered (luma_in r ratio) usize_max && is_bordered (chroma_in r ratio) usize_max

-- The status: 4 if there is no such format, 1 if a plane can't be addressed, and 0 otherwise.
abbrev pub status_by : FrameRequest → Option ChromaSubsampling → ℕ
status_by r None = 4
status_by r (Some format) = if fits_by r (ratio_of format) then 0 else 1

abbrev pub parts_of_format : FrameRequest → Option ChromaSubsampling → FrameParts
parts_of_format r None = parts_by r None
parts_of_format r (Some format) = parts_by r (ratio_of format)

abbrev pub frame_status : FrameRequest → ℕ
frame_status r = status_by r (numbered_format r.format)

abbrev pub frame_parts : FrameRequest → FrameParts
frame_parts r = parts_of_format r (numbered_format r.format)
