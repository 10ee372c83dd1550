-- The index of each format in the table. No two formats have the same short name.
use Rattle.std.proofs.Common.{ℕ, ◌≡◌, ◌≢◌, ◌⊎◌, ◌+◌, ◌<◌, ◌≤◌, Bool, true, List, get_or, refl, sym, ◌∙◌, ap, arith, lit<}
use Rattle.std.proofs.Common.{rules, subst}
use Rattle.std.specs.Prelude.{None, Some}
use Rattle.std.specs.Str.{bytes_eq}
use Rattle.std.specs.List.{list_all, position_or_len, AllByRecursion}
use Rattle.std.proofs.lemmas.List.Elements.{All-from_recursion, All-get_or}
use Rattle.std.proofs.lemmas.List.Sums.{AllPass-from_list_all}
use Rattle.v_frame_y4m.specs.declared.color.Color.TheVariants as color
use Rattle.v_frame_y4m.specs.declared.color.Depth.TheVariants as depth
use Rattle.v_frame_semi_planar.specs.declared.format.SemiPlanarFormat.TheVariants as layout
use Rattle.v_frame_formats.specs.Formats.{short_name, IsFormat, IsNamed, IsNameOf}
use Rattle.v_frame_formats.specs.declared.format.VideoFormat.{VideoFormat}
use Rattle.v_frame_formats.specs.declared.format.VideoFormat.TheVariants.{Planar, SemiPlanar}
use Rattle.v_frame_formats.specs.declared.format.TheConstants.{FORMATS}

-- The index of a format, by its short name.
abbrev pub format_place : VideoFormat → ℕ
format_place f = position_or_len (λ g. bytes_eq (short_name g) (short_name f)) FORMATS

none_is_no_color : {A : Type 0} (a : A) → None ≡ Some a → ⊥
none_is_no_color a is = search rules

pub format_stands : (f w : VideoFormat) → IsNamed f → (get_or FORMATS (format_place f) w ≡ f) × (format_place f < 35)
format_stands (Planar color.Unstated) w is = absurd (none_is_no_color color.Unstated is)
format_stands (Planar color.Yuv420) w is = (refl, lit< tt)
format_stands (Planar color.Yuv420Jpeg) w is = (refl, lit< tt)
format_stands (Planar color.Yuv420Mpeg2) w is = (refl, lit< tt)
format_stands (Planar color.Yuv420Paldv) w is = (refl, lit< tt)
format_stands (Planar color.Yuv411) w is = (refl, lit< tt)
format_stands (Planar color.Yuv422) w is = (refl, lit< tt)
format_stands (Planar color.Yuv444) w is = (refl, lit< tt)
format_stands (Planar color.Mono) w is = (refl, lit< tt)
format_stands (Planar (color.Yuv420HighDepth depth.Nine)) w is = (refl, lit< tt)
format_stands (Planar (color.Yuv420HighDepth depth.Ten)) w is = (refl, lit< tt)
format_stands (Planar (color.Yuv420HighDepth depth.Twelve)) w is = (refl, lit< tt)
format_stands (Planar (color.Yuv420HighDepth depth.Fourteen)) w is = (refl, lit< tt)
format_stands (Planar (color.Yuv420HighDepth depth.Sixteen)) w is = (refl, lit< tt)
format_stands (Planar (color.Yuv422HighDepth depth.Nine)) w is = (refl, lit< tt)
format_stands (Planar (color.Yuv422HighDepth depth.Ten)) w is = (refl, lit< tt)
format_stands (Planar (color.Yuv422HighDepth depth.Twelve)) w is = (refl, lit< tt)
format_stands (Planar (color.Yuv422HighDepth depth.Fourteen)) w is = (refl, lit< tt)
format_stands (Planar (color.Yuv422HighDepth depth.Sixteen)) w is = (refl, lit< tt)
format_stands (Planar (color.Yuv444HighDepth depth.Nine)) w is = (refl, lit< tt)
format_stands (Planar (color.Yuv444HighDepth depth.Ten)) w is = (refl, lit< tt)
format_stands (Planar (color.Yuv444HighDepth depth.Twelve)) w is = (refl, lit< tt)
format_stands (Planar (color.Yuv444HighDepth depth.Fourteen)) w is = (refl, lit< tt)
format_stands (Planar (color.Yuv444HighDepth depth.Sixteen)) w is = (refl, lit< tt)
format_stands (Planar (color.MonoHighDepth depth.Nine)) w is = (refl, lit< tt)
format_stands (Planar (color.MonoHighDepth depth.Ten)) w is = (refl, lit< tt)
format_stands (Planar (color.MonoHighDepth depth.Twelve)) w is = (refl, lit< tt)
format_stands (Planar (color.MonoHighDepth depth.Fourteen)) w is = (refl, lit< tt)
format_stands (Planar (color.MonoHighDepth depth.Sixteen)) w is = (refl, lit< tt)
format_stands (SemiPlanar layout.Nv12) w is = (refl, lit< tt)
format_stands (SemiPlanar layout.Nv21) w is = (refl, lit< tt)
format_stands (SemiPlanar layout.Nv16) w is = (refl, lit< tt)
format_stands (SemiPlanar layout.Nv24) w is = (refl, lit< tt)
format_stands (SemiPlanar layout.P010) w is = (refl, lit< tt)
format_stands (SemiPlanar layout.P012) w is = (refl, lit< tt)
format_stands (SemiPlanar layout.P016) w is = (refl, lit< tt)

pub format_below : (f : VideoFormat) → IsNamed f → format_place f < 35
format_below f named = (format_stands f f named).1

pub each_format : (p : VideoFormat → Bool) → list_all p FORMATS ≡ true → (f : VideoFormat) → IsNamed f → p f ≡ true
each_format p is f named = subst (λ (g : VideoFormat). p g ≡ true) (format_stands f f named).0
    (All-get_or (λ g. p g ≡ true) FORMATS (format_place f) f (format_below f named) (AllPass-from_list_all p FORMATS is))

listed : AllByRecursion IsNamed FORMATS
listed = (refl, (refl, (refl, (refl, (refl, (refl, (refl, (refl, (refl, (refl, (refl, (refl, (refl, (refl, (refl, (refl, (refl, (refl, (refl, (refl, (refl, (refl, (refl, (refl, (refl, (refl, (refl, (refl, (tt, (tt, (tt, (tt, (tt, (tt, (tt, tt)))))))))))))))))))))))))))))))))))

pub named_at : (i : ℕ) (w : VideoFormat) → i < 35 → IsNamed (get_or FORMATS i w)
named_at i w within = All-from_recursion IsNamed FORMATS listed i w within

pub format_further : (text : List ℕ) (i : ℕ) (w f : VideoFormat)
    → ¬ (IsNameOf (get_or FORMATS i w) text)
    → IsFormat f text → i ≤ format_place f → i + 1 ≤ format_place f
format_further text i w f miss is low =
    let here : i ≡ format_place f → get_or FORMATS i w ≡ f = λ e.
    ap (λ (k : ℕ). get_or FORMATS k w) e ∙ (format_stands f w is.0).0 in
    let other : i ≢ format_place f = λ e. miss (subst (λ (g : VideoFormat). IsNameOf g text) (sym (here e)) is.1) in
    omega (arith, other, low)
