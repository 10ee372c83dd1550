-- The negative of a picture.
use Rattle.std.specs.Prelude.{◌-◌, option_map}
use Rattle.v_frame.specs.Prelude.{PixelForm, Table, Tables}
use Rattle.v_frame_ops.specs.Prelude.{mapped}

module _ {T : Type 0} (form : PixelForm T) (peak : T) where
  -- The largest value minus the value of a sample, or 0 if the sample has a larger value.
  abbrev pub negative_pixel : T → T
  negative_pixel pixel = form.pixel_of (form.value peak - form.value pixel)

  -- The negative of each sample of a plane.
  abbrev pub negative_table : Table T → Table T
  negative_table rows = mapped (mapped negative_pixel) rows

  -- The negative of each plane of a frame.
  abbrev pub negative_tables : Tables T → Tables T
  negative_tables tables =
      record {
        y = negative_table tables.y;
        u = option_map negative_table tables.u;
        v = option_map negative_table tables.v;
      }
