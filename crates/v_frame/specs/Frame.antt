-- The tables of a frame: one for each plane that it has. A replay keeps the border of each plane.
use Rattle.std.specs.Prelude.{ℕ, ◌≡◌, ◌==◌, if◌then◌else◌, Option, Some, None, option_map}
use Rattle.v_frame_raster.specs.Table.{Table}
use Rattle.v_frame_raster.specs.Raster.{Raster, table_of, border_and_geometry}
use Rattle.v_frame.specs.declared.frame.Frame.{Frame}

-- One of three items by index: 0 is Y, 1 is U and 2 is V. No other index has an item.
abbrev pub of_three : {X : Type 0} → X → Option X → Option X → ℕ → Option X
of_three y u v index =
    if index == 0 then Some y else (if index == 1 then u else (if index == 2 then v else None))

-- The tables of a frame.
pub record Tables (T : Type 0) : Type 0 where
  pub y : Table T
  pub u : Option (Table T)
  pub v : Option (Table T)

module _ {T : Type 0} where
  -- The table with this index: 0 is Y, 1 is U and 2 is V.
  abbrev pub table_at : Tables T → ℕ → Option (Table T)
  table_at tables index = of_three tables.y tables.u tables.v index

  -- The tables with the one at an index replaced.
  abbrev pub with_table : Tables T → ℕ → Table T → Tables T
  with_table tables index table =
      if index == 0 then record tables { y = table }
      else (if index == 1 then record tables { u = Some table }
      else (if index == 2 then record tables { v = Some table } else tables))

  -- The plane at an index.
  abbrev pub plane_at : Frame T → ℕ → Option (Raster T)
  plane_at frame index = of_three frame.y_plane frame.u_plane frame.v_plane index

  -- The tables that a frame shows.
  abbrev pub tables_of : Frame T → Tables T
  tables_of frame =
      record {
        y = table_of frame.y_plane;
        u = option_map table_of frame.u_plane;
        v = option_map table_of frame.v_plane;
      }

  -- The frames have the same format, the same bit depth and the same planes. The geometry and the
  -- border of each plane are unchanged.
  pub record KeepsBorders (old new : Frame T) : Type 0 where
    pub subsampling : new.subsampling ≡ old.subsampling
    pub bit_depth : new.bit_depth ≡ old.bit_depth
    pub y_plane : border_and_geometry new.y_plane ≡ border_and_geometry old.y_plane
    pub u_plane : option_map border_and_geometry new.u_plane
        ≡ option_map border_and_geometry old.u_plane
    pub v_plane : option_map border_and_geometry new.v_plane
        ≡ option_map border_and_geometry old.v_plane
