-- Streams of frames that are read, changed and written.
use Rattle.std.specs.Prelude.{ℕ, ◌≡◌, ◌+◌, min, All, List, length, map, flat_map, Option}
use Rattle.std.specs.Io.KnownBytes.{Appends, Consumes}
use Rattle.v_frame.specs.Prelude.{PixelForm, Tables, with_table}
use Rattle.v_frame_planar.specs.Planar.{planar_bytes, sizes_of}

-- A number of frames of this size were read, and each was written with a change. The byte lists are
-- the remaining bytes of the reader and the contents of the writer, before and after.
pub record Carries {T : Type 0} (form : PixelForm T)
    (size : (ℕ × ℕ) × (Option (ℕ × ℕ) × Option (ℕ × ℕ))) (change : Tables T → Tables T)
    (left left' has has' : Option (List ℕ)) (count : ℕ) : Type 0 where
  pub shown : List (Tables T)
  pub counted : length shown ≡ count
  pub sized : All (λ tables. sizes_of tables ≡ size) shown
  pub read : Consumes left left' (flat_map (planar_bytes form) shown)
  pub written : Appends has has' (flat_map (λ tables. planar_bytes form (change tables)) shown)

-- The tables with each luma pixel increased by `by`, but to at most 255.
abbrev pub brighter : ℕ → Tables ℕ → Tables ℕ
brighter by tables = with_table tables 0 (map (map (λ pixel. min (pixel + by) 255)) tables.y)
