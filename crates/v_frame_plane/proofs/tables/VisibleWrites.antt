-- The entries of a buffer from its first visible pixel on are written as rows with a stride. These rows are then the
-- table, and if only the rows were written, the border is unchanged.
use Rattle.std.proofs.Common.{ℕ, ◌≡◌, List, ◌++◌, length, take, drop, slice_range, refl, sym, ◌∙◌, ap, arith}
use Rattle.std.proofs.Common.{length-take-le, length-drop, length-append}
use Rattle.std.proofs.lemmas.List.{append-nil, drop_all, drop_at, take_all}
use Rattle.v_frame_buffer.specs.Part.{with_part}
use Rattle.v_frame_raster.specs.Geometry.{Geometry, IsGeometry, alloc_size_of, origin_of, stride_of}
use Rattle.v_frame_raster.specs.Raster.{Raster, raster, table_of, border_of}
use Rattle.v_frame_raster.specs.StridedRows.{strided_rows, KeepsRest, RowsFit}
use Rattle.v_frame_raster.proofs.tables.Lists.{refill_same}
use Rattle.v_frame_raster.proofs.tables.Strides.{visible_begin, visible_fit, visible_are}
use Rattle.v_frame_raster.proofs.tables.VisiblePart.{border_kept}
use Rattle.v_frame_plane.specs.Visible.{with_visible, ShowsEachList, KeepsBorderOfEach}

module _ {T : Type 0} where
  -- All entries from an index on.
  pub rest_of : (xs : List T) (start size : ℕ) → length xs ≡ size → slice_range xs start size ≡ drop start xs
  rest_of xs start size whole = take_all _ (drop start xs) (omega (arith, length-drop start xs))

  -- A part that is written up to the end.
  pub with_rest : (xs new : List T) (start : ℕ) → length (take start xs ++ new) ≡ length xs
      → length new ≡ length (drop start xs)
      → with_part xs start new ≡ take start xs ++ new
  with_rest xs new start long count =
      rw (drop_all (length new) (drop start xs) (omega (arith, count)), append-nil new)
      (refill_same xs (take start xs ++ new) long)

  module _ (p : Raster T) (stride : ℕ) (stride_is : stride ≡ stride_of p.geometry) (valid : IsGeometry p.geometry)
      (whole : length p.buffer ≡ alloc_size_of p.geometry) where
    abbrev g : Geometry
    g = p.geometry

    abbrev origin : ℕ
    origin = origin_of p.geometry

    abbrev lent : List T
    lent = drop (origin_of p.geometry) p.buffer

    pub lent_fit : RowsFit p.geometry.width p.geometry.height stride (length (drop (origin_of p.geometry) p.buffer))
    lent_fit = visible_fit g p.buffer origin stride refl stride_is valid whole

    pub lent_are : strided_rows p.geometry.width p.geometry.height stride (drop (origin_of p.geometry) p.buffer)
        ≡ table_of p
    lent_are = visible_are g p.buffer origin stride refl stride_is valid whole

    module _ (new : List T) (count : length new ≡ length (drop (origin_of p.geometry) p.buffer)) where
      front : length (take origin p.buffer) ≡ origin
      front = length-take-le origin p.buffer (visible_begin g p.buffer origin stride refl stride_is valid whole)

      long : length (take origin p.buffer ++ new) ≡ length p.buffer
      long =
          let begins = visible_begin g p.buffer origin stride refl stride_is valid whole in
          length-append (take origin p.buffer) new ∙ omega (arith, front, count, length-drop origin p.buffer, begins)

      written : with_part p.buffer (origin_of p.geometry) new ≡ take origin p.buffer ++ new
      written = with_rest p.buffer new origin long count

      shown : table_of (raster p.geometry (with_part p.buffer (origin_of p.geometry) new))
          ≡ strided_rows p.geometry.width p.geometry.height stride new
      shown =
          ap (λ (xs : List T). table_of (raster g xs)) written
          ∙ sym (visible_are g (take origin p.buffer ++ new) origin stride refl stride_is valid (long ∙ whole))
          ∙ ap (strided_rows g.width g.height stride) (drop_at (take origin p.buffer) new origin front)

    kept : (new : List T) → KeepsRest p.geometry.width p.geometry.height stride (drop (origin_of p.geometry) p.buffer) new
        → border_of (raster p.geometry (with_part p.buffer (origin_of p.geometry) new)) ≡ border_of p
    kept new rest =
        ap (λ (xs : List T). border_of (raster g xs)) (written new rest.count)
        ∙ border_kept g p.buffer new origin stride refl stride_is valid whole rest

    pub shows_each_list : ShowsEachList p p.geometry.width p.geometry.height stride
        (drop (origin_of p.geometry) p.buffer)
    unfolding with_visible
    shows_each_list = λ new count. shown new count

    pub keeps_border_of_each : KeepsBorderOfEach p p.geometry.width p.geometry.height stride
        (drop (origin_of p.geometry) p.buffer)
    unfolding with_visible
    keeps_border_of_each = λ new rest. ap (λ pieces. (p.geometry, pieces)) (kept new rest)
