-- Semi-planar layouts, and the frames that fit them.
use Rattle.std.specs.Prelude.{ℕ, ◌≡◌, ◌-◌, ◌*◌, Bool, true, false, option_map}
use Rattle.std.specs.Int.NonZero.{non_zero_u8_get}
use Rattle.v_frame.specs.Prelude.{ChromaSubsampling, Yuv420, Yuv422, Yuv444, Frame, tables_of}
use Rattle.v_frame_planar.specs.Planar.{size_of}
use Rattle.v_frame_planar.specs.Video.{chroma_sizes_of}
use Rattle.v_frame_semi_planar.specs.declared.format.SemiPlanarFormat.{SemiPlanarFormat}
use Rattle.v_frame_semi_planar.specs.declared.format.SemiPlanarFormat.TheVariants.{Nv12, Nv21, Nv16}
use Rattle.v_frame_semi_planar.specs.declared.format.SemiPlanarFormat.TheVariants.{Nv24}
use Rattle.v_frame_semi_planar.specs.declared.format.SemiPlanarFormat.TheVariants.{P010, P012, P016}
use Rattle.v_frame_semi_planar.specs.declared.error.SemiPlanarError.{SemiPlanarError}
use Rattle.v_frame_semi_planar.specs.declared.error.SemiPlanarError.TheVariants.{BitDepth}
use Rattle.v_frame_semi_planar.specs.declared.error.SemiPlanarError.TheVariants.{Subsampling}
use Rattle.v_frame_semi_planar.specs.declared.error.SemiPlanarError.TheVariants.{ChromaSize}
use Rattle.v_frame_semi_planar.specs.declared.error.SemiPlanarError.TheVariants.{Planar}

abbrev pub subsampling_of : SemiPlanarFormat → ChromaSubsampling
subsampling_of Nv12 = Yuv420
subsampling_of Nv21 = Yuv420
subsampling_of Nv16 = Yuv422
subsampling_of Nv24 = Yuv444
subsampling_of P010 = Yuv420
subsampling_of P012 = Yuv420
subsampling_of P016 = Yuv420

-- The number of bits of a sample.
abbrev pub depth_of : SemiPlanarFormat → ℕ
depth_of Nv12 = 8
depth_of Nv21 = 8
depth_of Nv16 = 8
depth_of Nv24 = 8
depth_of P010 = 10
depth_of P012 = 12
depth_of P016 = 16

-- The number of bytes of a sample.
abbrev pub sample_size_of : SemiPlanarFormat → ℕ
sample_size_of Nv12 = 1
sample_size_of Nv21 = 1
sample_size_of Nv16 = 1
sample_size_of Nv24 = 1
sample_size_of P010 = 2
sample_size_of P012 = 2
sample_size_of P016 = 2

-- The number of low bits that a sample leaves unused in its bytes.
abbrev pub unused_bits : SemiPlanarFormat → ℕ
unused_bits format = 8 * sample_size_of format - depth_of format

-- V is the first of each pair of chroma pixels.
abbrev pub begins_with_v : SemiPlanarFormat → Bool
begins_with_v Nv12 = false
begins_with_v Nv21 = true
begins_with_v Nv16 = false
begins_with_v Nv24 = false
begins_with_v P010 = false
begins_with_v P012 = false
begins_with_v P016 = false

module _ {T : Type 0} (size : ℕ) (format : SemiPlanarFormat) (frame : Frame T) where
  -- The pixels have the size of the layout's samples, and the bit depth is that of the layout.
  abbrev pub HasDepth : Type 0
  HasDepth = (size ≡ sample_size_of format) × (non_zero_u8_get frame.bit_depth ≡ depth_of format)

  abbrev pub HasSubsampling : Type 0
  HasSubsampling = frame.subsampling ≡ subsampling_of format

  -- Both chroma planes are present, and have the size that covers luma.
  abbrev pub HasChromaSizes : Type 0
  HasChromaSizes =
      let tables = tables_of frame in
      let luma : ℕ × ℕ = size_of tables.y in
      let chroma = chroma_sizes_of (subsampling_of format) luma.0 luma.1 in
      (option_map size_of tables.u ≡ chroma) × (option_map size_of tables.v ≡ chroma)

  -- The frame fits the layout.
  pub record HasLayout : Type 0 where
    pub depth : HasDepth
    pub subsampling : HasSubsampling
    pub sizes : HasChromaSizes

  -- The reason why the frame does not fit the layout. The first reason that applies is reported.
  abbrev pub RefusedFor : SemiPlanarError → Type 0
  RefusedFor BitDepth = ¬ HasDepth
  RefusedFor Subsampling = HasDepth × ¬ HasSubsampling
  RefusedFor ChromaSize = HasDepth × HasSubsampling × ¬ HasChromaSizes
  RefusedFor (Planar error) = ⊥
