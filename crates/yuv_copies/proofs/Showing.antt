-- The sizes of the planes of a part of a picture.
use Rattle.std.proofs.Common.{ℕ, ◌≡◌, ◌∙◌, Option, Some, None, ap, refl}
use Rattle.std.specs.Prelude.{option_map}
use Rattle.v_frame.specs.Prelude.{ChromaSubsampling, Frame, Geometry, Raster, Yuv420, Yuv422, Yuv411, Yuv444, Monochrome}
use Rattle.v_frame_planar.specs.Video.{chroma_sizes_of, ratio_or_one}
use Rattle.v_frame_y4m.specs.Color.{subsampling_of}
use Rattle.v_frame_y4m.specs.declared.header.StreamHeader.{StreamHeader}
use Rattle.v_frame_formats.specs.declared.rectangle.Rectangle.{Rectangle}
use Rattle.v_frame_streams.specs.Conversions.{size_laid_out, sizes_laid_out}
use Rattle.v_frame_streams.specs.Crops.{unpadded_geometry, geometry_laid_out, IsUnpadded}
use Rattle.v_frame_streams.specs.Edits.{beside}
use Rattle.v_frame_streams.specs.Prelude.{sizes_in, Sizes}

abbrev size_in : Geometry → ℕ × ℕ
size_in g = (g.width, g.height)

module _ {T : Type 0} where
  size_by_geometry : (plane : Option (Raster T))
      → option_map size_laid_out plane ≡ option_map size_in (option_map geometry_laid_out plane)
  size_by_geometry None = refl
  size_by_geometry (Some plane) = refl

  module _ (part : Rectangle) (width height : ℕ) where
    bare_size : (s : ChromaSubsampling) (plane : Option (Raster T))
        → option_map size_laid_out plane ≡ chroma_sizes_of s width height
        → option_map size_in (option_map (unpadded_geometry (beside (ratio_or_one s) part)) plane)
        ≡ chroma_sizes_of s part.width part.height
    bare_size Yuv420 (Some plane) size = refl
    bare_size Yuv420 None size = cc
    bare_size Yuv422 (Some plane) size = refl
    bare_size Yuv422 None size = cc
    bare_size Yuv411 (Some plane) size = refl
    bare_size Yuv411 None size = cc
    bare_size Yuv444 (Some plane) size = refl
    bare_size Yuv444 None size = cc
    bare_size Monochrome (Some plane) size = cc
    bare_size Monochrome None size = refl

    -- If a chroma plane contains the samples of a part of luma, it has the size of chroma for that
    -- part.
    chroma_size : (s : ChromaSubsampling) (plane made : Option (Raster T))
        → option_map size_laid_out plane ≡ chroma_sizes_of s width height
        → option_map geometry_laid_out made ≡ option_map (unpadded_geometry (beside (ratio_or_one s) part)) plane
        → option_map size_laid_out made ≡ chroma_sizes_of s part.width part.height
    chroma_size s plane made size bare =
        size_by_geometry made ∙ ap (option_map size_in) bare ∙ bare_size s plane size

  pub part_sizes : (part : Rectangle) (header : StreamHeader) (frame made : Frame T)
      → frame.subsampling ≡ subsampling_of header.color → sizes_laid_out frame ≡ sizes_in header → IsUnpadded part frame made
      → sizes_laid_out made ≡ sizes_in (record header { width = part.width; height = part.height })
  part_sizes part header frame made same sizes bare =
      let s = subsampling_of header.color in
      let chroma = λ (plane new : Option (Raster T))
      (bare : option_map geometry_laid_out new ≡ option_map (unpadded_geometry (beside (ratio_or_one frame.subsampling) part)) plane)
      (size : option_map size_laid_out plane ≡ chroma_sizes_of s header.width header.height).
      chroma_size part header.width header.height s plane new size
      (bare ∙ ap (λ (c : ChromaSubsampling). option_map (unpadded_geometry (beside (ratio_or_one c) part)) plane) same) in
      let u = chroma frame.u_plane made.u_plane bare.u (ap (λ (s : Sizes). s.1.0) sizes) in
      let v = chroma frame.v_plane made.v_plane bare.v (ap (λ (s : Sizes). s.1.1) sizes) in
      let y = ap size_in bare.y in
      rw (y, u, v) refl
