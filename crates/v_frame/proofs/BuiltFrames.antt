-- A new frame is zero everywhere, and its chroma planes have the size for the format.
use Rattle.std.proofs.Common.{◌≡◌, Option, Some, None, Ok, All, IfSome, option_map, sym, ◌∙◌, ap, arith}
use Rattle.std.proofs.lemmas.List.{get_or-replicate, length-replicate}
use Rattle.v_frame_raster.specs.Geometry.{Geometry, alloc_size_of}
use Rattle.v_frame_raster.specs.Chroma.{chroma_size_of, subsampled}
use Rattle.v_frame.specs.Build.{FrameRequest, luma_geometry, IsZeroEverywhere, visible_size_of, chroma_geometry}
use Rattle.v_frame.specs.Build.{IsBlank}
use Rattle.v_frame_raster.specs.Raster.{filled}
use Rattle.v_frame_raster.specs.declared.chroma.ChromaSubsampling.{ChromaSubsampling}
use Rattle.v_frame_raster.proofs.ChromaLemmas.{chroma_size, no_chroma_size}
use Rattle.v_frame.specs.declared.frame.Frame.{Frame}

-- The entries of a plane that is filled with one value, and its size.
module _ {T : Type 0} (zero : T) where
  filled_everywhere : (g : Geometry) → All (λ pixel. pixel ≡ zero) (filled zero g).buffer
  filled_everywhere g = λ k d h. get_or-replicate (alloc_size_of g) k zero d
      (omega (arith, length-replicate (alloc_size_of g) zero))

  chroma_filled : (chroma : Option Geometry) → IfSome (option_map (filled zero) chroma)
      (λ plane. All (λ pixel. pixel ≡ zero) plane.buffer)
  chroma_filled None = tt
  chroma_filled (Some g) = filled_everywhere g

  chroma_plane_size : (s : ChromaSubsampling) (g : Geometry) (chroma : Option Geometry) → subsampled s g ≡ Ok chroma →
      option_map visible_size_of (option_map (filled zero) chroma) ≡ chroma_size_of s g.width g.height
  chroma_plane_size s g None e = sym (no_chroma_size s g e)
  chroma_plane_size s g (Some c) e = sym (chroma_size s g c e)

  pub blank_is_zero : (asked : FrameRequest) (frame : Frame T) → IsBlank zero asked frame → IsZeroEverywhere zero asked
      frame
  blank_is_zero asked frame blank =
      let luma = luma_geometry asked in
      let chroma = chroma_geometry asked in
      record {
        y = rw blank.y_plane (filled_everywhere luma);
        u = rw blank.u_plane (chroma_filled chroma);
        v = rw blank.v_plane (chroma_filled chroma);
        size_of_u = ap (option_map visible_size_of) blank.u_plane ∙ chroma_plane_size asked.subsampling luma chroma
            blank.chroma;
        size_of_v = ap (option_map visible_size_of) blank.v_plane ∙ chroma_plane_size asked.subsampling luma chroma
            blank.chroma;
      }
