-- The properties that headers declare, and those in which two headers differ.
use Rattle.std.specs.Prelude.{ℕ, ◌*◌, ◌==◌, ◌&&◌, ◌||◌, not, if◌then◌else◌, nat_le, nat_lt, Bool, true, false, List, Option, Some, None, codes, unwrap_or}
use Rattle.std.specs.List.{list_any}
use Rattle.std.specs.Str.{bytes_eq}
use Rattle.v_frame_rgb.specs.declared.standard.ColorRange.{ColorRange}
use Rattle.v_frame_rgb.specs.declared.standard.ColorRange.TheVariants.{Full, Limited}
use Rattle.v_frame_rgb.specs.declared.standard.Standard.{Standard}
use Rattle.v_frame_rgb.specs.declared.standard.Standard.TheVariants.{Bt601, Bt709}
use Rattle.v_frame_y4m.specs.Color.{siting_of}
use Rattle.v_frame_y4m.specs.declared.color.ChromaSiting.{ChromaSiting}
use Rattle.v_frame_y4m.specs.declared.color.ChromaSiting.TheVariants.{Alternating, Center, Left}
use Rattle.v_frame_y4m.specs.declared.header.Ratio.{Ratio}
use Rattle.v_frame_y4m.specs.declared.header.StreamHeader.{StreamHeader}
use Rattle.yuv_system.specs.declared.headers.HeaderDifferences.{HeaderDifferences}

-- The range that a header declares. The arguments are whether it has the extension for full range,
-- and whether it has the extension for limited range.
abbrev pub range_by_marks : Bool → Bool → Option ColorRange
range_by_marks true false = Some Full
range_by_marks false true = Some Limited
range_by_marks _ _ = None

-- The range that a list of extensions declares.
abbrev pub declared_range : List (List ℕ) → Option ColorRange
declared_range extensions =
    range_by_marks (list_any (bytes_eq (codes "COLORRANGE=FULL")) extensions)
    (list_any (bytes_eq (codes "COLORRANGE=LIMITED")) extensions)

-- The range that a command uses: the value of its option if given, otherwise the range of the
-- header, and limited range if the header declares none.
abbrev pub used_range : Option ColorRange → StreamHeader → ColorRange
used_range asked header = unwrap_or asked (unwrap_or (declared_range header.extensions) Limited)

-- The standard that a command uses: the value of its option if given, otherwise BT.601 up to 576
-- rows and BT.709 above.
abbrev pub matrix_of : Option Standard → StreamHeader → Standard
matrix_of asked header = unwrap_or asked (if nat_le header.height 576 then Bt601 else Bt709)

-- Two ranges if they differ.
abbrev pub other_range : ColorRange → ColorRange → Option (ColorRange × ColorRange)
other_range Limited Limited = None
other_range Full Full = None
other_range one other = Some (one, other)

-- Whether a ratio is known: neither of its numbers is 0.
abbrev pub is_known : Ratio → Bool
is_known ratio = nat_lt 0 ratio.numerator && nat_lt 0 ratio.denominator

-- Two ratios if both are known and their values differ.
abbrev pub known_apart : Ratio → Ratio → Option (Ratio × Ratio)
known_apart one other =
    if not (is_known one) || not (is_known other) then None
    else (if one.numerator * other.denominator == other.numerator * one.denominator then None
    else Some (one, other))

abbrev pub other_ratio : Option Ratio → Option Ratio → Option (Ratio × Ratio)
other_ratio (Some one) (Some other) = known_apart one other
other_ratio _ _ = None

-- Two positions of chroma samples if both are declared and they differ.
abbrev pub other_siting : Option ChromaSiting → Option ChromaSiting
    → Option (ChromaSiting × ChromaSiting)
other_siting (Some Center) (Some Center) = None
other_siting (Some Left) (Some Left) = None
other_siting (Some Alternating) (Some Alternating) = None
other_siting (Some one) (Some other) = Some (one, other)
other_siting _ _ = None

-- The properties in which two headers differ.
abbrev pub differences_of : StreamHeader → StreamHeader → HeaderDifferences
differences_of first second =
    record {
      range = other_range (used_range None first) (used_range None second);
      rate = other_ratio first.frame_rate second.frame_rate;
      aspect = other_ratio first.pixel_aspect second.pixel_aspect;
      siting = other_siting (siting_of first.color) (siting_of second.color);
    }
