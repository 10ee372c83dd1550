-- The planes of a frame after another frame was converted into it.
use Rattle.std.specs.Prelude.{ℕ, ◌≡◌, ◌-◌, ◌*◌, ◌^◌, ◌==◌, if◌then◌else◌, Option, Some, None}
use Rattle.std.specs.Prelude.{option_map}
use Rattle.std.specs.Prelude.{replicate}
use Rattle.std.specs.Int.NonZero.{non_zero_u8_get}
use Rattle.v_frame.specs.Prelude.{Table, Raster, PixelForm, Frame, Tables, ratio_of, table_of}
use Rattle.v_frame.specs.Prelude.{ChromaSubsampling, Yuv444}
use Rattle.v_frame_convert.specs.Convert.{converted}
use Rattle.v_frame_convert.specs.Depth.{pixel_at_depth, pixel_of_depth, DepthFits}
use Rattle.v_frame_convert.specs.Scale.{scaled, SizesFit}
use Rattle.v_frame_convert.specs.declared.scale.Scale.{Scale}
use Rattle.v_frame_convert.specs.declared.scale.Scale.TheVariants.{Quarter, Half, Same, Double}
use Rattle.v_frame_convert.specs.declared.scale.Scale.TheVariants.{Quadruple}

-- The scale of chroma columns, if the source has `from` luma columns for each chroma column and the
-- target has `to`.
abbrev pub column_scale : ℕ → ℕ → Scale
column_scale from to =
    if from == to then Same
    else (if from == 2 * to then Double
    else (if from == 4 * to then Quadruple else (if to == 2 * from then Half else Quarter)))

-- The scale of chroma rows, if the source has `from` luma rows for each chroma row and the target
-- has `to`. Both numbers are 1 or 2.
abbrev pub line_scale : ℕ → ℕ → Scale
line_scale from to = if from == to then Same else (if from == 2 * to then Double else Half)

abbrev pub scales_by : Option (ℕ × ℕ) → Option (ℕ × ℕ) → Scale × Scale
scales_by None target = (Same, Same)
scales_by (Some source) None = (Same, Same)
scales_by (Some source) (Some target) =
    (column_scale source.0 target.0, line_scale source.1 target.1)

-- The scales of columns and rows between the chroma planes of two formats.
abbrev pub scales_between : ChromaSubsampling → ChromaSubsampling → Scale × Scale
scales_between source target = scales_by (ratio_of source) (ratio_of target)

-- The sizes of two chroma planes correspond, if both planes exist.
abbrev pub ChromaFits : {S T : Type 0} → Scale × Scale → Option (Raster S) → Option (Raster T)
    → Type 0
ChromaFits {S} {T} scales source target =
    (p : Raster S) (q : Raster T) → source ≡ Some p → target ≡ Some q
    → SizesFit scales.0 p.geometry.width q.geometry.width
    × SizesFit scales.1 p.geometry.height q.geometry.height

-- The source frame can be converted into the target frame.
pub record FramesFit {S T : Type 0} (bytes other : ℕ) (source : Frame S) (target : Frame T)
    : Type 0 where
  pub wide : source.y_plane.geometry.width ≡ target.y_plane.geometry.width
  pub high : source.y_plane.geometry.height ≡ target.y_plane.geometry.height
  pub from : DepthFits bytes (non_zero_u8_get source.bit_depth)
  pub to : DepthFits other (non_zero_u8_get target.bit_depth)
  pub u : ChromaFits (scales_between source.subsampling target.subsampling) source.u_plane
      target.u_plane
  pub v : ChromaFits (scales_between source.subsampling target.subsampling) source.v_plane
      target.v_plane

-- A chroma plane is as large as its format requires for luma of this size, rounded up.
pub record IsChromaSize {T : Type 0} (format : ChromaSubsampling) (width height : ℕ)
    (plane : Raster T) : Type 0 where
  pub across : SizesFit (scales_between format Yuv444).0 plane.geometry.width width
  pub down : SizesFit (scales_between format Yuv444).1 plane.geometry.height height

-- Two chroma planes are as large as the formats of their frames require, if both planes exist.
abbrev pub AreChromaSizes : {S T : Type 0} → Frame S → Frame T → Option (Raster S)
    → Option (Raster T) → Type 0
AreChromaSizes {S} {T} source target from to =
    (p : Raster S) (q : Raster T) → from ≡ Some p → to ≡ Some q
    → IsChromaSize source.subsampling source.y_plane.geometry.width source.y_plane.geometry.height p
    × IsChromaSize target.subsampling target.y_plane.geometry.width target.y_plane.geometry.height q

-- The chroma planes that both frames have are as large as their formats require.
abbrev pub HaveChromaSizes : {S T : Type 0} → Frame S → Frame T → Type 0
HaveChromaSizes source target =
    AreChromaSizes source target source.u_plane target.u_plane
    × AreChromaSizes source target source.v_plane target.v_plane

-- The source frame can be converted into the target frame, and the chroma planes are as large as
-- their formats require.
abbrev pub FramesMatch : {S T : Type 0} → ℕ → ℕ → Frame S → Frame T → Type 0
FramesMatch bytes other source target =
    FramesFit bytes other source target × HaveChromaSizes source target

module _ {S T : Type 0} (form : PixelForm S) (other : PixelForm T) (from to : ℕ) where
  -- A chroma plane at another size and depth. If the source has none, each pixel has the neutral
  -- value.
  abbrev pub chroma_shown : Scale × Scale → Option (Raster S) → ℕ → ℕ → Table T
  chroma_shown scales None width height =
      replicate height (replicate width (other.pixel_of (2 ^ (to - 1))))
  chroma_shown scales (Some source) width height =
      scaled form (pixel_of_depth other from to) scales.0 scales.1 width height (table_of source)

  -- The converted chroma plane, if the target has one.
  abbrev pub chroma_of : Scale × Scale → Option (Raster S) → Option (Raster T) → Option (Table T)
  chroma_of scales source target =
      option_map (λ plane. chroma_shown scales source plane.geometry.width plane.geometry.height)
      target

-- The planes of a converted frame: luma at the depth of the target, and the chroma planes of the
-- target.
abbrev pub converted_tables : {S T : Type 0} → PixelForm S → PixelForm T → Frame S → Frame T
    → Tables T
converted_tables form other source target =
    let from = non_zero_u8_get source.bit_depth in
    let to = non_zero_u8_get target.bit_depth in
    let scales = scales_between source.subsampling target.subsampling in
    record {
      y = converted (converted (pixel_at_depth form other from to)) (table_of source.y_plane);
      u = chroma_of form other from to scales source.u_plane target.u_plane;
      v = chroma_of form other from to scales source.v_plane target.v_plane;
    }
