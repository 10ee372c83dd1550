-- Calls of a writing iterator that write nothing keep its items, and therefore the plane if its border is kept.
use Rattle.std.proofs.Common.{◌≡◌, List, [], None, All, get_or, length, refl, sym, ◌∙◌, ap}
use Rattle.std.proofs.lemmas.List.{map-id}
use Rattle.v_frame_raster.specs.{Geometry.alloc_size_of, Table.row_major}
use Rattle.v_frame_raster.specs.Raster.{KeepsBorder, Raster, table_of}
use Rattle.v_frame_raster.proofs.tables.CutRows.{cut_again}
use Rattle.v_frame_raster.proofs.tables.Determined.{determines_buffer}
use Rattle.v_frame_raster.proofs.tables.Overwrites.{overwritten_by_gaps}
use Rattle.v_frame_raster.proofs.tables.Places.{rows_are_wide}
use Rattle.v_frame.specs.Walk.{pixel_written, pixels_written, row_written, rows_written, walk_leaves}
use Rattle.v_frame.specs.Walk.{side_of_pixel, side_of_row}
use Rattle.v_frame.specs.declared.replay.draw.{PixelDraw.PixelDraw, RowDraw.RowDraw, Side.Side}
use Rattle.v_frame.proofs.{DrawnItems.Keeps, DrawnItems.kept_after}

module _ {X D : Type 0} (side_of : D → Side) (make : D → X → X) where
  abbrev Idle : D → Type 0
  Idle = Keeps side_of make (λ item. item)

  all_kept : (items : List X) (draws : List D) → All Idle draws → walk_leaves side_of make items draws ≡ items
  all_kept items draws idle =
      sym (map-id (walk_leaves side_of make items draws)) ∙ kept_after side_of make (λ item. item) items [] draws idle ∙
      map-id items

module _ {T : Type 0} where
  -- Whole buffers, as `data` returns them.
  module _ (old new : Raster T) (before after : List T) (is_old : before ≡ old.buffer) (is_new : after ≡ new.buffer)
      (whole_old : length before ≡ alloc_size_of old.geometry) (whole_new : length after ≡ alloc_size_of new.geometry)
      (border : KeepsBorder old new) where
    long : length old.buffer ≡ alloc_size_of old.geometry
    long = ap length (sym is_old) ∙ whole_old

    same_plane : table_of new ≡ table_of old → new ≡ old
    same_plane table = determines_buffer T new old (ap length (sym is_new) ∙ whole_new) long
        (ap (λ kept. kept.0) border) table (ap (λ kept. kept.1) border)

    pub rows_kept : (draws : List (RowDraw T)) → table_of new ≡ rows_written (table_of old) draws →
        All (λ draw. All (λ write. write ≡ None) draw.writes) draws → new ≡ old
    rows_kept draws is none = same_plane (is ∙ all_kept side_of_row row_written (table_of old) draws
        (λ k d h row. overwritten_by_gaps row (get_or draws k d).writes (none k d h)))

    pub pixels_kept : (draws : List (PixelDraw T)) → table_of new ≡ pixels_written (table_of old) draws →
        All (λ draw. draw.value ≡ None) draws → new ≡ old
    pixels_kept draws is none =
        let table = table_of old in
        let pixels = all_kept side_of_pixel pixel_written (row_major table) draws (λ k d h pixel. rw (none k d h) refl)
        in
        same_plane (is ∙ rw pixels (cut_again old.geometry.width table table refl (rows_are_wide old long)))
