-- Frames in another format, with the sizes in the geometries of their planes.
use Rattle.std.proofs.Common.{ℕ, ◌≡◌, List, Option, refl, sym, ◌∙◌, ap, subst}
use Rattle.std.specs.Prelude.{Some, None, option_map}
use Rattle.std.specs.Int.NonZero.{non_zero_u8_get}
use Rattle.v_frame.specs.Prelude.{border_and_geometry, table_of, tables_of, Frame, Geometry, KeepsBorders, PixelForm, Raster, Tables}
use Rattle.v_frame.specs.Prelude.{ChromaSubsampling}
use Rattle.v_frame_convert.specs.Prelude.{chroma_of, converted_tables, scales_between, ChromaFits, FramesFit, SizesFit}
use Rattle.v_frame_convert.specs.declared.scale.Scale.{Scale}
use Rattle.v_frame_streams.specs.Conversions.{chroma_in_format, format_of, in_format, size_laid_out, sizes_laid_out, ChromaSizesFit, Format, FormatsFit, LayoutFits}
use Rattle.v_frame_planar.specs.Planar.{sizes_of}
use Rattle.v_frame_semi_planar.specs.Format.{HasLayout}
use Rattle.v_frame_semi_planar.specs.declared.format.SemiPlanarFormat.{SemiPlanarFormat}
use Rattle.v_frame_streams.specs.Pictures.{Sizes}

module _ {S T : Type 0} (form : PixelForm S) (other : PixelForm T) where
  chroma_by_size : (from to : Format) (source : Option (Raster S)) (target : Option (Raster T))
      → chroma_of form other from.1 to.1 (scales_between from.0 to.0) source target
      ≡ option_map (chroma_in_format form other from to (option_map table_of source)) (option_map size_laid_out target)
  chroma_by_size from to None None = refl
  chroma_by_size from to (Some source) None = refl
  chroma_by_size from to None (Some target) = refl
  chroma_by_size from to (Some source) (Some target) = refl

  -- The tables of a conversion, by the formats and the sizes.
  pub tables_by_format : (source : Frame S) (target : Frame T)
      → converted_tables form other source target
      ≡ in_format form other (format_of source) (format_of target) (sizes_laid_out target) (tables_of source)
  tables_by_format source target =
      let from = format_of source in
      let to = format_of target in
      let by_y : Tables T = in_format form other from to (sizes_laid_out target) (tables_of source) in
      let of_u = λ (u : Option (List (List T))). let t : Tables T = record {
        y = by_y.y;
        u = u;
        v =
            chroma_of form other from.1 to.1 (scales_between from.0 to.0) source.v_plane target.v_plane;
      } in t in
      let of_v = λ (v : Option (List (List T))). let t : Tables T = record { y = by_y.y; u = by_y.u; v = v } in t in
      ap of_u (chroma_by_size from to source.u_plane target.u_plane)
      ∙ ap of_v (chroma_by_size from to source.v_plane target.v_plane)

module _ {T : Type 0} where
  -- The size that a border and a geometry determine.
  abbrev size_told : Geometry × List (List T) → ℕ × ℕ
  size_told told = (told.0.width, told.0.height)

  size_by_told : (plane : Option (Raster T))
      → option_map size_laid_out plane ≡ option_map size_told (option_map border_and_geometry plane)
  size_by_told None = refl
  size_by_told (Some plane) = refl

  chroma_size_kept : (old new : Option (Raster T))
      → option_map border_and_geometry new ≡ option_map border_and_geometry old
      → option_map size_laid_out new ≡ option_map size_laid_out old
  chroma_size_kept old new kept =
      size_by_told new ∙ ap (λ (told : Option (Geometry × List (List T))). option_map size_told told) kept
      ∙ sym (size_by_told old)

  pub sizes_kept : (old new : Frame T) → KeepsBorders old new → sizes_laid_out new ≡ sizes_laid_out old
  sizes_kept old new kept =
      let luma = ap size_told kept.y_plane in
      let u = chroma_size_kept old.u_plane new.u_plane kept.u_plane in
      let v = chroma_size_kept old.v_plane new.v_plane kept.v_plane in
      ap (λ (s : ℕ × ℕ). let t : Sizes = (s, (option_map size_laid_out new.u_plane, option_map size_laid_out new.v_plane)) in t) luma
      ∙ ap (λ (s : Option (ℕ × ℕ)). let t : Sizes = (size_laid_out old.y_plane, (s, option_map size_laid_out new.v_plane)) in t) u
      ∙ ap (λ (s : Option (ℕ × ℕ)). let t : Sizes = (size_laid_out old.y_plane, (option_map size_laid_out old.u_plane, s)) in t) v

  pub format_kept : (old new : Frame T) → KeepsBorders old new → format_of new ≡ format_of old
  format_kept old new kept =
      ap (λ (s : ChromaSubsampling). let f : Format = (s, non_zero_u8_get new.bit_depth) in f) kept.subsampling
      ∙ ap (λ b. let f : Format = (old.subsampling, non_zero_u8_get b) in f) kept.bit_depth

module _ {S T : Type 0} where
  chroma_fits : (scales : Scale × Scale) (source : Option (Raster S)) (target : Option (Raster T))
      → ChromaSizesFit scales (option_map size_laid_out source) (option_map size_laid_out target)
      → ChromaFits scales source target
  chroma_fits scales (Some a) (Some b) fits = λ p q is_p is_q.
      let same : a ≡ p = cc in
      let also_same : b ≡ q = cc in
      subst (λ (x : Raster S). SizesFit scales.0 x.geometry.width q.geometry.width
      × SizesFit scales.1 x.geometry.height q.geometry.height) same
      (subst (λ (y : Raster T). SizesFit scales.0 a.geometry.width y.geometry.width
      × SizesFit scales.1 a.geometry.height y.geometry.height) also_same fits)
  chroma_fits scales None target fits = λ p q is_p is_q. cc
  chroma_fits scales (Some a) None fits = λ p q is_p is_q. cc

  pub frames_fit : (bytes other : ℕ) (source : Frame S) (target : Frame T)
      → FormatsFit bytes other (format_of source) (format_of target) (sizes_laid_out source) (sizes_laid_out target)
      → FramesFit bytes other source target
  frames_fit bytes other source target fits = record {
    wide = ap (λ (s : ℕ × ℕ). s.0) fits.luma;
    high = ap (λ (s : ℕ × ℕ). s.1) fits.luma;
    from = fits.depth;
    to = fits.new_depth;
    u = chroma_fits (scales_between source.subsampling target.subsampling) source.u_plane target.u_plane fits.u;
    v = chroma_fits (scales_between source.subsampling target.subsampling) source.v_plane target.v_plane fits.v;
  }

-- A frame with the format and the sizes of a layout fits that layout.
pub has_layout : {T : Type 0} (bytes size : ℕ) (layout : SemiPlanarFormat) (frame : Frame T) → bytes ≡ size
    → LayoutFits bytes layout (format_of frame) (sizes_of (tables_of frame)) → HasLayout size layout frame
has_layout bytes size layout frame is fits = record {
  depth = (sym is ∙ fits.bytes, fits.depth);
  subsampling = fits.chroma;
  sizes = (fits.u, fits.v);
}
