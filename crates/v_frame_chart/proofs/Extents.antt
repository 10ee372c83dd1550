-- The least and the greatest finite values of all series.
use Rattle.std.proofs.Common.{ℕ, refl, ◌≡◌, ◌+◌, ◌<◌, ◌++◌, List, [], ◌∷◌, length, take, get_or, ap, ◌∙◌, true, false, Bool, cond, ◌&&◌, T, subst}
use Rattle.std.specs.List.{fold}
use Rattle.std.specs.Float.{float_is_finite, ◌≤ᶠ◌, NotNan}
use Rattle.std.specs.Float.Ieee.{Float, eq, fin, inf, is_nan, le, lt, nan}
use Rattle.std.proofs.lemmas.Grind.{flat_map-append, fold-append}
use Rattle.std.proofs.lemmas.List.{take_more}
use Rattle.std.proofs.lemmas.List.{append-nil}
use Rattle.std.proofs.lemmas.List.Elements.{filter-append}
use Rattle.v_frame_chart.specs.Columns.{finite, greater, lesser}
use Rattle.v_frame_chart.specs.Room.{all_values, is_between, least_of, most_of, HasRoom}
use Rattle.v_frame_chart.specs.Scales.{value_at}
use Rattle.v_frame_chart.specs.declared.scale.Scale.{Scale}
use Rattle.v_frame_chart.specs.declared.drawing.Series.{Series}
use Rattle.v_frame_chart.proofs.Appended.{no_series}

-- One more series.
pub gathered_more : (f : Float → Float → Float) (start : Float) (series : List Series) (k : ℕ) → k < length series
    → fold f start (finite (all_values (take (k + 1) series)))
    ≡ fold f (fold f start (finite (all_values (take k series)))) (finite (get_or series k no_series).values.now)
gathered_more f start series k within =
    let one = get_or series k no_series in
    let values : Series → List Float = λ s. s.values.now in
    let cut : all_values (take (k + 1) series) ≡ all_values (take k series) ++ one.values.now =
    ap all_values (take_more series k no_series within) ∙ flat_map-append values (take k series) (one ∷ [])
    ∙ ap (λ (more : List Float). all_values (take k series) ++ more) (append-nil one.values.now) in
    ap (λ (all : List Float). fold f start (finite all)) cut
    ∙ ap (fold f start) (filter-append float_is_finite (all_values (take k series)) one.values.now)
    ∙ fold-append f start (finite (all_values (take k series))) (finite one.values.now)

-- No number is above infinity or below minus infinity.
pub not_above : (x : Float) → lt (inf false) x ≡ false
unfolding lt
not_above nan = refl
not_above (inf true) = refl
not_above (inf false) = refl
not_above (fin s m e) = refl

pub not_below : (x : Float) → lt x (inf true) ≡ false
unfolding lt
not_below nan = refl
not_below (inf true) = refl
not_below (inf false) = refl
not_below (fin s m e) = refl

-- A number that is not NaN lies between the infinities.
pub above_all : (x : Float) → NotNan x → x ≤ᶠ inf false
unfolding le lt eq is_nan
above_all nan h = h
above_all (inf true) h = tt
above_all (inf false) h = tt
above_all (fin s m e) h = tt

pub below_all : (x : Float) → NotNan x → inf true ≤ᶠ x
unfolding le lt eq is_nan
below_all nan h = h
below_all (inf true) h = tt
below_all (inf false) h = tt
below_all (fin s m e) h = tt

-- A choice between two numbers is not NaN if neither of them is.
chosen : (b : Bool) (x y : Float) → NotNan x → NotNan y → NotNan (cond b x y)
chosen true x y first second = first
chosen false x y first second = second

lesser_step : (x y : Float) → NotNan x → NotNan y → NotNan (lesser x y)
lesser_step x y first second = chosen (lt y x) y x second first

greater_step : (x y : Float) → NotNan x → NotNan y → NotNan (greater x y)
greater_step x y first second = chosen (lt x y) y x second first

-- A fold of such choices over finite values is not NaN.
pub folded : (f : Float → Float → Float) → ((x y : Float) → NotNan x → NotNan y → NotNan (f x y))
    → (start : Float) (values : List Float) → NotNan start → NotNan (fold f start (finite values))
unfolding float_is_finite is_nan
folded f keeps start [] first = first
folded f keeps start (nan ∷ values) first = folded f keeps start values first
folded f keeps start (inf s ∷ values) first = folded f keeps start values first
folded f keeps start (fin s m e ∷ values) first = folded f keeps (f start (fin s m e)) values
    (keeps start (fin s m e) first tt)

pub least_is : (series : List Series) → NotNan (least_of series)
unfolding least_of is_nan
least_is series = folded lesser lesser_step (inf false) (all_values series) tt

pub most_is : (series : List Series) → NotNan (most_of series)
unfolding most_of is_nan
most_is series = folded greater greater_step (inf true) (all_values series) tt

all_three : (a b c : Bool) → true ≡ a && (b && c) → T a × T b × T c
all_three true true true h = (tt, tt, tt)
all_three true true false h = cc
all_three true false c h = cc
all_three false b c h = cc

-- The scale passed a test.
pub passed : (scale : Scale) (series : List Series) (low high : Float) → low ≡ least_of series → high ≡ most_of series
    → true ≡ is_between scale low high → HasRoom scale series
unfolding is_between
passed scale series low high least most holds =
    let parts = all_three (lt (value_at scale 0) (value_at scale scale.count)) (le (value_at scale 0) low)
    (le high (value_at scale scale.count)) holds in
    record {
      rises = parts.0;
      low = subst (λ (x : Float). value_at scale 0 ≤ᶠ x) least parts.1;
      high = subst (λ (x : Float). x ≤ᶠ value_at scale scale.count) most parts.2;
    }

-- A scale from minus infinity to infinity contains all values.
pub endless_room : (scale : Scale) (series : List Series) → value_at scale 0 ≡ inf true
    → value_at scale scale.count ≡ inf false → HasRoom scale series
unfolding lt
endless_room scale series bottom top = record {
  rises = rw (bottom, top) tt;
  low = rw bottom (below_all (least_of series) (least_is series));
  high = rw top (above_all (most_of series) (most_is series));
}
