-- Pixels that are encoded in several runs.
use Rattle.std.proofs.Common.{◌≡◌, List, ◌++◌, None, Some, Option, refl}
use Rattle.std.proofs.lemmas.Grind.{flat_map-append}
use Rattle.v_frame.specs.Prelude.{PixelForm, Table, Tables, bytes_of, bytes_of_pixels, row_major}
use Rattle.v_frame_planar.specs.Planar.{bytes_of_plane, planar_bytes, pixels_of_plane, planar_pixels}

module _ {T : Type 0} (form : PixelForm T) where
  -- The bytes of two runs are those of the first, followed by those of the second.
  pub bytes-append : (first rest : List T) → bytes_of_pixels form (first ++ rest) ≡ bytes_of_pixels form first ++
      bytes_of_pixels form rest
  bytes-append first rest = flat_map-append (λ pixel. bytes_of form.size (form.value pixel)) first rest

  bytes_of_absent : (table : Option (Table T)) → bytes_of_pixels form (pixels_of_plane table) ≡ bytes_of_plane form
      table
  bytes_of_absent None = refl
  bytes_of_absent (Some table) = refl

  -- The bytes of the planar pixels are the planar bytes.
  pub bytes_of_planar_pixels : (tables : Tables T) → bytes_of_pixels form (planar_pixels tables) ≡ planar_bytes form
      tables
  bytes_of_planar_pixels tables =
      let u = pixels_of_plane tables.u in
      let v = pixels_of_plane tables.v in
      rw (
        bytes-append (row_major tables.y) (u ++ v),
        bytes-append u v,
        bytes_of_absent tables.u,
        bytes_of_absent
            tables.v,
      )
