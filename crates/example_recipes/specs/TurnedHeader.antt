-- The header of a stream whose pictures are rotated by 90 degrees, with another color format.
use Rattle.std.specs.Prelude.{ℕ, ◌≡◌, Bool, List, [], ◌∷◌, codes, filter, nat_eq, not, option_map, refl}
use Rattle.std.specs.List.{starts_with}
use Rattle.v_frame_y4m.specs.declared.color.Color.{Color}
use Rattle.v_frame_y4m.specs.declared.header.Ratio.{Ratio}
use Rattle.v_frame_y4m.specs.declared.header.StreamHeader.{StreamHeader}

-- The extension repeats the chroma format, as ffmpeg's `XYSCSS=420JPEG` does.
abbrev pub repeats_format : List ℕ → Bool
repeats_format extension = starts_with nat_eq extension (codes "YSCSS=")

-- The extensions that do not depend on the chroma format.
abbrev pub without_format : List (List ℕ) → List (List ℕ)
without_format extensions = filter (λ extension. not (repeats_format extension)) extensions

range_stays : without_format (codes "YSCSS=420JPEG" ∷ codes "COLORRANGE=FULL" ∷ [])
    ≡ codes "COLORRANGE=FULL" ∷ []
range_stays = refl

-- The ratio with its numerator and denominator exchanged.
abbrev pub turned_ratio : Ratio → Ratio
turned_ratio ratio = record { numerator = ratio.denominator; denominator = ratio.numerator }

-- The header with width and height exchanged, with another color format, and without the extensions
-- that repeat the old format.
abbrev pub turned_header : StreamHeader → Color → StreamHeader
turned_header header color =
    record {
      width = header.height;
      height = header.width;
      frame_rate = header.frame_rate;
      interlacing = header.interlacing;
      pixel_aspect = option_map turned_ratio header.pixel_aspect;
      color = color;
      extensions = without_format header.extensions;
    }
