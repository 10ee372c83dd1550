-- The value that a text spells is its only value.
use Rattle.std.proofs.Common.{ℕ, ◌≡◌, ◌<◌, ◌^◌, List, [], ◌∷◌, ◌++◌, length, get_or, sym, ◌∙◌, ap, subst, arith, rules, inl, inr}
use Rattle.std.proofs.Common.{refl, map, Bool, true, false, decimal}
use Rattle.std.specs.Char.{to_ascii_lowercase}
use Rattle.std.specs.Cmp.Lexicographic.{bytes_decides}
use Rattle.std.specs.Int.{IsInRange}
use Rattle.std.specs.Str.{str_eq_ignore_ascii_case}
use Rattle.std.proofs.lemmas.Fmt.{decimal_injective}
use Rattle.std.proofs.lemmas.List.{get_or-map, length-map}
use Rattle.std.specs.Prelude.{codes, None, Option, Some, ◌⊎◌}
use Rattle.v_frame_y4m.specs.declared.header.Ratio.{Ratio}
use Rattle.v_frame_formats.specs.Formats.{common_name, ffmpeg_name, full_range_format, short_name, IsFormat, IsSameName}
use Rattle.yuv_words.specs.Values.{IsGain, IsNumber, IsRatio, IsRatioWith, IsRaw, IsRectangle, NamesRaw, SpellsFormat, SpellsRaw, SpellsRectangle}
use Rattle.yuv_words.specs.declared.command.RawVideo.{RawVideo}
use Rattle.v_frame_formats.specs.declared.rectangle.Rectangle.{Rectangle}
use Rattle.v_frame_formats.specs.declared.format.VideoFormat.{VideoFormat}
use Rattle.yuv_words.proofs.Cuts.{cut_same, inside, lacks_from, marked, one_cut, one_rectangle, one_size, plain, Lacks}
use Rattle.v_frame_formats.proofs.Places.{each_format}

-- A text that spells a rectangle of size 0 spells no other rectangle.
pub no_rectangle : (word : List ℕ) (value : Rectangle) → SpellsRectangle value word
    → (value.width ≡ 0) ⊎ (value.height ≡ 0) → (r : Rectangle) → ¬ (IsRectangle r word)
no_rectangle word value spelled (inl zero_wide) r spells =
    let same = one_rectangle r value word spells.0 spelled in
    omega (arith, spells.1, ap (λ (q : Rectangle). q.width) same, zero_wide)
no_rectangle word value spelled (inr zero_high) r spells =
    let same = one_rectangle r value word spells.0 spelled in
    omega (arith, spells.2, ap (λ (q : Rectangle). q.height) same, zero_high)

pub no_raw : (word : List ℕ) (value : RawVideo) → SpellsRaw value word
    → (value.width ≡ 0) ⊎ (value.height ≡ 0) → (raw : RawVideo) → ¬ (IsRaw raw word)
no_raw word value spelled (inl zero_wide) raw spells =
    let same = one_size raw value word spells.0 spelled in omega (arith, spells.1, same.0, zero_wide)
no_raw word value spelled (inr zero_high) raw spells =
    let same = one_size raw value word spells.0 spelled in omega (arith, spells.2, same.1, zero_high)

-- If two names differ in case only, and one has no at sign, neither has the other.
lacks_lower : (name other : List ℕ) → IsSameName name other → plain 64 (map to_ascii_lowercase other) ≡ true → Lacks 64 name
lacks_lower name other same free = λ i within is.
    let lower : map to_ascii_lowercase name ≡ map to_ascii_lowercase other =
    (bytes_decides (map to_ascii_lowercase name) (map to_ascii_lowercase other)).0 same in
    let inside : i < length (map to_ascii_lowercase other) = subst (λ (xs : List ℕ). i < length xs) lower
    (subst (λ (n : ℕ). i < n) (sym (length-map name to_ascii_lowercase)) within) in
    lacks_from 64 (map to_ascii_lowercase other) free i inside
    (ap (λ (xs : List ℕ). get_or xs i 0) (sym lower) ∙ get_or-map to_ascii_lowercase name i 0 0 within
    ∙ ap to_ascii_lowercase is)

full_lacks : (name : List ℕ) (f : VideoFormat) (one two three : Bool)
    → str_eq_ignore_ascii_case name (codes "yuvj420p") ≡ one → str_eq_ignore_ascii_case name (codes "yuvj422p") ≡ two
    → str_eq_ignore_ascii_case name (codes "yuvj444p") ≡ three → full_range_format name ≡ Some f → Lacks 64 name
full_lacks name f true two three first second third is = lacks_lower name (codes "yuvj420p") first refl
full_lacks name f false true three first second third is = lacks_lower name (codes "yuvj422p") second refl
full_lacks name f false false true first second third is = lacks_lower name (codes "yuvj444p") third refl
full_lacks name f false false false first second third is = absurd (search (rules, first, second, third, is))

-- No name of a format contains an at sign.
pub name_lacks : (f : VideoFormat) (full : Bool) (name : List ℕ) → NamesRaw f full name → Lacks 64 name
name_lacks f false name (named, inl is) = lacks_lower name (short_name f) is
    (each_format (λ g. plain 64 (map to_ascii_lowercase (short_name g))) refl f named)
name_lacks f false name (named, inr (inl is)) = lacks_lower name (ffmpeg_name f) is
    (each_format (λ g. plain 64 (map to_ascii_lowercase (ffmpeg_name g))) refl f named)
name_lacks f false name (named, inr (inr is)) = lacks_lower name (common_name f) is
    (each_format (λ g. plain 64 (map to_ascii_lowercase (common_name g))) refl f named)
name_lacks f true name is = full_lacks name f _ _ _ refl refl refl is

-- The name is neither the name of a format nor one of the names for full range.
pub no_name : (name : List ℕ) → ((f : VideoFormat) → ¬ (IsFormat f name)) → full_range_format name ≡ None
    → (f : VideoFormat) (full : Bool) → ¬ (NamesRaw f full name)
no_name name none nothing f false is = none f is
no_name name none nothing f true is = search (rules, sym nothing ∙ is)

-- The text before the at sign names the format, and the text after it spells the rate.
pub record HasRate (f : VideoFormat) (full : Bool) (name rest : List ℕ) : Type 0 where
  pub format : NamesRaw f full name
  pub rate : Ratio
  pub spelled : IsRatio rate rest

pub format_cut : (f : VideoFormat) (full : Bool) (r : Option Ratio) (text name rest : List ℕ) → Lacks 64 name
    → text ≡ name ++ 64 ∷ rest → SpellsFormat f full r text → HasRate f full name rest
format_cut f full None text name rest lacks is spells =
    let free = name_lacks f full spells.name spells.named in
    let same : spells.name ≡ name ++ 64 ∷ rest = sym spells.rated ∙ is in
    absurd (free (length name) (subst (λ (t : List ℕ). length name < length t) (sym same) (inside name rest 64))
    (ap (λ (t : List ℕ). get_or t (length name) 0) same ∙ marked name rest 64))
format_cut f full (Some q) text name rest lacks is spells =
    let cut = cut_same 64 name spells.name rest spells.rated.0 lacks (name_lacks f full spells.name spells.named)
    (sym is ∙ spells.rated.1) in
    record {
      format = subst (NamesRaw f full) (sym cut.0) spells.named;
      rate = q;
      spelled = subst (IsRatio q) (sym cut.1) spells.rated.2;
    }

-- A text that spells a ratio with a 0 spells no other ratio with this mark.
pub no_ratio : (mark : ℕ) → ¬ (IsInRange 48 57 mark) → (text rest : List ℕ) (n d : ℕ)
    → (text ≡ decimal n ++ mark ∷ rest) × (n < 2 ^ 64) → IsNumber d rest
    → (n ≡ 0) ⊎ ((n ≡ 0 → ⊥) × (d ≡ 0)) → (r : Ratio) → ¬ (IsRatioWith mark r text)
no_ratio mark apart text rest n d first second (inl zero) r is =
    let cut = one_cut mark apart n r.numerator rest (decimal r.denominator) first.1 is.1.0 (sym first.0 ∙ is.0) in
    omega (arith, cut.0, zero, is.2)
no_ratio mark apart text rest n d first second (inr zero) r is =
    let cut = one_cut mark apart n r.numerator rest (decimal r.denominator) first.1 is.1.0 (sym first.0 ∙ is.0) in
    let same = decimal_injective d r.denominator second.1 is.1.1 (sym second.0 ∙ cut.1) in
    omega (arith, same, zero.1, is.3)

-- A text without a mark spells the number of its digits, or nothing if this is not a number above
-- 0.
pub no_whole_ratio : (text : List ℕ) → ((r : Ratio) → ¬ (IsRatioWith 58 r text)) → ((r : Ratio) → ¬ (IsRatioWith 47 r text))
    → ((n : ℕ) → IsNumber n text → n ≡ 0) → (r : Ratio) → ¬ (IsRatio r text)
no_whole_ratio text colon slash none r (inl is) = colon r is
no_whole_ratio text colon slash none r (inr (inl is)) = slash r is
no_whole_ratio text colon slash none r (inr (inr is)) = omega (arith, none r.numerator is.0, is.1)

-- A text spells at most one number.
pub one_number : (n m : ℕ) (text : List ℕ) → IsNumber n text → IsNumber m text → n ≡ m
one_number n m text one other = decimal_injective n m one.1 other.1 (sym one.0 ∙ other.0)

-- A text that spells 0 or a number above 65535 spells no gain.
pub no_gain : (text : List ℕ) (n : ℕ) → IsNumber n text → (n ≡ 0) ⊎ ((n ≡ 0 → ⊥) × (65535 < n)) → (m : ℕ)
    → ¬ (IsGain m text)
no_gain text n number (inl zero) m is =
    omega (arith, one_number m n text (is.0, omega (arith, is.2)) number, zero, is.1)
no_gain text n number (inr large) m is =
    omega (arith, one_number m n text (is.0, omega (arith, is.2)) number, large.1, is.2)

-- A text without an at sign that is not the name of a format spells no format.
pub no_format : (text : List ℕ) → Lacks 64 text → ((f : VideoFormat) (full : Bool) → ¬ (NamesRaw f full text))
    → (f : VideoFormat) (full : Bool) (rate : Option Ratio) → ¬ (SpellsFormat f full rate text)
no_format text lacks none f full None spells =
    none f full (subst (NamesRaw f full) (sym spells.rated) spells.named)
no_format text lacks none f full (Some q) spells =
    let is = spells.rated.1 in
    lacks (length spells.name) (subst (λ (t : List ℕ). length spells.name < length t) (sym is)
    (inside spells.name spells.rated.0 64))
    (ap (λ (t : List ℕ). get_or t (length spells.name) 0) is ∙ marked spells.name spells.rated.0 64)
