-- The crop of each plane lies inside it, and gives planes of the sizes in the header that is
-- written.
use Rattle.std.proofs.Common.{ℕ, ◌≡◌, ◌∙◌, ◌+◌, ◌/◌, ◌%◌, ◌<◌, ◌≤◌, Bool, true, false, Option, ap, eqb-true, refl, subst, sym, arith}
use Rattle.std.specs.Prelude.{if◌then◌else◌, ◌==◌, ◌&&◌, Some, None}
use Rattle.std.specs.Int.{div_ceil}
use denote.Enum.Bare.{same_true, sameb}
use Rattle.v_frame_raster.specs.contracts.chroma.ChromaSubsampling.{the_type}
use Rattle.v_frame.specs.Prelude.{ChromaSubsampling, Yuv420, Yuv422, Yuv411, Yuv444, Monochrome}
use Rattle.v_frame_planar.specs.Video.{chroma_sizes_of, ratio_or_one}
use Rattle.v_frame_y4m.specs.declared.header.StreamHeader.{StreamHeader}
use Rattle.v_frame_convert.specs.Prelude.{DepthFits}
use Rattle.v_frame_y4m.specs.Color.{bits_of, depth_of, subsampling_of}
use Rattle.v_frame_y4m.specs.Frames.{pixel_bytes}
use Rattle.v_frame_y4m.specs.declared.color.Color.{Color}
use Rattle.v_frame_y4m.specs.declared.color.Color.TheVariants.{Unstated, Yuv420 as C420, Yuv420Jpeg, Yuv420Mpeg2, Yuv420Paldv, Yuv411 as C411, Yuv422 as C422, Yuv444 as C444, Mono, Yuv420HighDepth, Yuv422HighDepth, Yuv444HighDepth, MonoHighDepth}
use Rattle.v_frame_y4m.specs.declared.color.Depth.{Depth}
use Rattle.v_frame_y4m.specs.declared.color.Depth.TheVariants.{Nine, Ten, Twelve, Fourteen, Sixteen}
use Rattle.v_frame_streams.specs.Conversions.{color_in, format_in, is_same_format, layout_in, layout_to, Format}
use Rattle.v_frame_streams.specs.Layouts.{HoldsColor}
use Rattle.v_frame_semi_planar.specs.Format.{sample_size_of, depth_of as layout_depth}
use Rattle.v_frame_semi_planar.specs.declared.format.SemiPlanarFormat.{SemiPlanarFormat}
use Rattle.v_frame_streams.specs.declared.stream.Container.{Container}
use Rattle.v_frame_streams.specs.declared.stream.Container.TheVariants.{Y4m, Raw}
use Rattle.v_frame_streams.specs.Copies.{copied_header, edit_of, plan_for, taken}
use Rattle.v_frame_streams.specs.Crops.{IsTakable}
use Rattle.v_frame_streams.specs.Edits.{beside, halved_size, ChromaFits, EditFits}
use Rattle.v_frame_streams.specs.Pictures.{sizes_in, Sizes}
use Rattle.v_frame_streams.specs.Plans.{CanConvert, CanLayOut, CanMake, FitsLayout, Plan}
use Rattle.v_frame_formats.specs.declared.rectangle.Rectangle.{Rectangle}
use Rattle.v_frame_streams.specs.declared.options.CopyOptions.{CopyOptions}
use Rattle.v_frame_semi_planar.specs.declared.format.SemiPlanarFormat.TheVariants.{Nv12, Nv21, Nv16, Nv24, P010, P012, P016}
use Rattle.v_frame_formats.specs.declared.format.VideoFormat.{VideoFormat}
use Rattle.v_frame_formats.specs.declared.format.VideoFormat.TheVariants.{Planar, SemiPlanar}
use Rattle.v_frame_streams.proofs.Scaling.{chroma_sizes_fit}

-- One dimension of a chroma plane, for each ratio.
module _ (at size whole : ℕ) (some : 0 < size) (inside : at + size ≤ whole) where
  inside_1 : (at / 1 + div_ceil size 1 ≤ div_ceil whole 1) × (0 < div_ceil size 1)
  inside_1 = (omega arith, omega arith)

  inside_2 : at % 2 ≡ 0 → (at / 2 + div_ceil size 2 ≤ div_ceil whole 2) × (0 < div_ceil size 2)
  inside_2 aligned = (omega arith, omega arith)

  inside_4 : at % 4 ≡ 0 → (at / 4 + div_ceil size 4 ≤ div_ceil whole 4) × (0 < div_ceil size 4)
  inside_4 aligned = (omega arith, omega arith)

made_1 : (half : Bool) (size : ℕ) → div_ceil (halved_size half size) 1 ≡ halved_size half (div_ceil size 1)
made_1 true size = omega arith
made_1 false size = refl

made_2 : (half : Bool) (size : ℕ) → div_ceil (halved_size half size) 2 ≡ halved_size half (div_ceil size 2)
made_2 true size = omega arith
made_2 false size = refl

made_4 : (half : Bool) (size : ℕ) → div_ceil (halved_size half size) 4 ≡ halved_size half (div_ceil size 4)
made_4 true size = omega arith
made_4 false size = refl

module _ (half : Bool) (part : Rectangle) (width height : ℕ) (some : (0 < part.width) × (0 < part.height))
    (across : part.x + part.width ≤ width) (down : part.y + part.height ≤ height) where
  chroma_fits : (s : ChromaSubsampling)
      → ((part.x % (ratio_or_one s).0 ≡ 0) × (part.y % (ratio_or_one s).1 ≡ 0))
      → ChromaFits half (beside (ratio_or_one s) part) (chroma_sizes_of s width height)
      (chroma_sizes_of s (halved_size half part.width) (halved_size half part.height))
  chroma_fits Yuv420 aligned =
      let x = inside_2 part.x part.width width some.0 across aligned.0 in
      let y = inside_2 part.y part.height height some.1 down aligned.1 in
      record {
        some = (x.1, y.1);
        across = x.0;
        down = y.0;
        wide = made_2 half part.width;
        high = made_2 half part.height;
      }
  chroma_fits Yuv422 aligned =
      let x = inside_2 part.x part.width width some.0 across aligned.0 in
      let y = inside_1 part.y part.height height some.1 down in
      record {
        some = (x.1, y.1);
        across = x.0;
        down = y.0;
        wide = made_2 half part.width;
        high = made_1 half part.height;
      }
  chroma_fits Yuv411 aligned =
      let x = inside_4 part.x part.width width some.0 across aligned.0 in
      let y = inside_1 part.y part.height height some.1 down in
      record {
        some = (x.1, y.1);
        across = x.0;
        down = y.0;
        wide = made_4 half part.width;
        high = made_1 half part.height;
      }
  chroma_fits Yuv444 aligned =
      let x = inside_1 part.x part.width width some.0 across in
      let y = inside_1 part.y part.height height some.1 down in
      record {
        some = (x.1, y.1);
        across = x.0;
        down = y.0;
        wide = made_1 half part.width;
        high = made_1 half part.height;
      }
  chroma_fits Monochrome aligned = tt

pub edit_fits : (options : CopyOptions) (header : StreamHeader) → IsTakable (taken options header) header
    → EditFits (edit_of options header) (sizes_in header) (plan_for options header None).made
edit_fits options header takable =
    let part = taken options header in
    let chroma = chroma_fits options.half part header.width header.height takable.some takable.inside.0 takable.inside.1
    (subsampling_of header.color) takable.aligned in
    record {
      y = record { some = takable.some; across = takable.inside.0; down = takable.inside.1; wide = refl; high = refl };
      u = chroma;
      v = chroma;
    }

fits_of_eight : (bytes : ℕ) → bytes ≡ 1 → DepthFits bytes 8
fits_of_eight bytes is = record { low = omega arith; high = omega (arith, is) }

fits_of_bits : (bytes : ℕ) (depth : Depth) → bytes ≡ pixel_bytes (bits_of depth) → DepthFits bytes (bits_of depth)
fits_of_bits bytes Nine is = record { low = omega arith; high = omega (arith, is) }
fits_of_bits bytes Ten is = record { low = omega arith; high = omega (arith, is) }
fits_of_bits bytes Twelve is = record { low = omega arith; high = omega (arith, is) }
fits_of_bits bytes Fourteen is = record { low = omega arith; high = omega (arith, is) }
fits_of_bits bytes Sixteen is = record { low = omega arith; high = omega (arith, is) }

-- The bit depth of a color fits pixels of the size that it requires.
depth_fits : (bytes : ℕ) (color : Color) → bytes ≡ pixel_bytes (depth_of color) → DepthFits bytes (depth_of color)
depth_fits bytes Unstated is = fits_of_eight bytes is
depth_fits bytes C420 is = fits_of_eight bytes is
depth_fits bytes Yuv420Jpeg is = fits_of_eight bytes is
depth_fits bytes Yuv420Mpeg2 is = fits_of_eight bytes is
depth_fits bytes Yuv420Paldv is = fits_of_eight bytes is
depth_fits bytes C411 is = fits_of_eight bytes is
depth_fits bytes C422 is = fits_of_eight bytes is
depth_fits bytes C444 is = fits_of_eight bytes is
depth_fits bytes Mono is = fits_of_eight bytes is
depth_fits bytes (Yuv420HighDepth depth) is = fits_of_bits bytes depth is
depth_fits bytes (Yuv422HighDepth depth) is = fits_of_bits bytes depth is
depth_fits bytes (Yuv444HighDepth depth) is = fits_of_bits bytes depth is
depth_fits bytes (MonoHighDepth depth) is = fits_of_bits bytes depth is

both_true : (p q : Bool) → (p && q) ≡ true → (p ≡ true) × (q ≡ true)
both_true true q told = (refl, told)
both_true false q told = cc

same_format : (from to : Format) → is_same_format from to ≡ true → from ≡ to
same_format from to told =
    let both = both_true (sameb the_type from.0 to.0) (from.1 == to.1) told in
    ap (λ (c : ChromaSubsampling). let f : Format = (c, from.1) in f) (same_true the_type _ from.0 to.0 both.0)
    ∙ ap (λ (d : ℕ). let f : Format = (to.0, d) in f) (eqb-true from.1 to.1 both.1)

-- Frames that are requested in a layout fit it.
module _ (w h : ℕ) where
  abbrev shape_in : Format → Format × Sizes
  shape_in format =
      let chroma = chroma_sizes_of format.0 w h in
      (format, ((w, h), (chroma, chroma)))

  fits_layout : (asked : Option VideoFormat) (there : Color) (bytes : ℕ)
      → bytes ≡ pixel_bytes (depth_of (color_in asked there))
      → FitsLayout bytes (layout_in asked) (shape_in (format_in (color_in asked there)))
  fits_layout None there bytes is = tt
  fits_layout (Some (Planar color)) there bytes is = tt
  fits_layout (Some (SemiPlanar Nv12)) there bytes is = record { bytes = is; depth = refl; chroma = refl; u = refl; v = refl }
  fits_layout (Some (SemiPlanar Nv21)) there bytes is = record { bytes = is; depth = refl; chroma = refl; u = refl; v = refl }
  fits_layout (Some (SemiPlanar Nv16)) there bytes is = record { bytes = is; depth = refl; chroma = refl; u = refl; v = refl }
  fits_layout (Some (SemiPlanar Nv24)) there bytes is = record { bytes = is; depth = refl; chroma = refl; u = refl; v = refl }
  fits_layout (Some (SemiPlanar P010)) there bytes is = record { bytes = is; depth = refl; chroma = refl; u = refl; v = refl }
  fits_layout (Some (SemiPlanar P012)) there bytes is = record { bytes = is; depth = refl; chroma = refl; u = refl; v = refl }
  fits_layout (Some (SemiPlanar P016)) there bytes is = record { bytes = is; depth = refl; chroma = refl; u = refl; v = refl }

  -- Pixels with the bit depth of a layout have the size of its samples.
  bytes_of_layout : (layout : SemiPlanarFormat) → pixel_bytes (layout_depth layout) ≡ sample_size_of layout
  bytes_of_layout Nv12 = refl
  bytes_of_layout Nv21 = refl
  bytes_of_layout Nv16 = refl
  bytes_of_layout Nv24 = refl
  bytes_of_layout P010 = refl
  bytes_of_layout P012 = refl
  bytes_of_layout P016 = refl

  -- Frames that keep their layout fit it.
  fits_layout_to : (to : Container) (asked : Option VideoFormat) (there : Color) (layout : Option SemiPlanarFormat)
      → HoldsColor layout there → (bytes : ℕ) → bytes ≡ pixel_bytes (depth_of (color_in asked there))
      → FitsLayout bytes (layout_to to asked layout) (shape_in (format_in (color_in asked there)))
  fits_layout_to Y4m None there layout holds bytes is = tt
  fits_layout_to Raw None there None holds bytes is = tt
  fits_layout_to Raw None there (Some layout) holds bytes is =
      let chroma = ap (λ (s : ChromaSubsampling). chroma_sizes_of s w h) holds.0 in
      record {
        bytes = is ∙ ap pixel_bytes holds.1 ∙ bytes_of_layout layout;
        depth = holds.1;
        chroma = holds.0;
        u = chroma;
        v = chroma;
      }
  fits_layout_to Y4m (Some format) there layout holds bytes is = fits_layout (Some format) there bytes is
  fits_layout_to Raw (Some format) there layout holds bytes is = fits_layout (Some format) there bytes is

module _ (bytes other : ℕ) (options : CopyOptions) (header : StreamHeader) (to : Container)
    (there : Option SemiPlanarFormat) (holds : HoldsColor there header.color)
    (is : bytes ≡ pixel_bytes (depth_of header.color))
    (also_is : other ≡ pixel_bytes (depth_of (copied_header options header).color)) where
  abbrev plan : Plan
  plan = plan_for options header (layout_to to options.format there)

  abbrev written : StreamHeader
  written = copied_header options header

  convertible : (same : Bool) → CanConvert bytes other plan.from plan.made
      (if same then None else Some (format_in written.color, sizes_in written))
  convertible true = tt
  convertible false =
      let chroma = chroma_sizes_fit written.width written.height (subsampling_of header.color)
      (subsampling_of written.color) in
      record {
        luma = refl;
        depth = depth_fits bytes header.color is;
        new_depth = depth_fits other written.color also_is;
        u = chroma;
        v = chroma;
      }

  lays_out : (same : Bool) → is_same_format (format_in header.color) (format_in written.color) ≡ same
      → CanLayOut bytes other (layout_to to options.format there) (plan.from, plan.made)
      (if same then None else Some (format_in written.color, sizes_in written))
  lays_out false told = fits_layout_to written.width written.height to options.format header.color there holds other also_is
  lays_out true told =
      let from = format_in header.color in
      let new = format_in written.color in
      let same : from ≡ new = same_format from new told in
      let fits = fits_layout_to written.width written.height to options.format header.color there holds bytes
      (is ∙ ap (λ (f : Format). pixel_bytes f.1) same) in
      subst (λ (f : Format). FitsLayout bytes (layout_to to options.format there) (shape_in written.width written.height f))
      (sym same) fits

  -- The frames of a stream can be edited and written as planned.
  pub can_make : IsTakable (taken options header) header → CanMake bytes other plan (sizes_in header)
  can_make takable = record {
    edits = edit_fits options header takable;
    converts = convertible (is_same_format (format_in header.color) (format_in written.color));
    lays_out = lays_out (is_same_format (format_in header.color) (format_in written.color)) refl;
  }
