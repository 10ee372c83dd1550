-- The bytes of a writer end with the text that was written last.
use Rattle.std.proofs.Common.{◌≡◌, ◌∙◌, ◌++◌, ◌∷◌, [], ℕ, Bool, true, false, List, Ok, Err, Option, Result, Some, None, ap, append_assoc, refl, subst, sym}
use Rattle.std.specs.Prelude.{option_map, IfSome, IsSome, IsSomeAnd, OnOk}
use Rattle.std.specs.Io.KnownBytes.{Appends}
use Rattle.std.proofs.lemmas.List.{append-nil}
use Rattle.v_frame.specs.Prelude.{PixelForm, Tables}
use Rattle.yuv_comparisons.specs.FrameReports.{ReportsFrame}
use Rattle.yuv_comparisons.specs.Reports.{difference_said, longer_said, report_end, sums_asked, EndsKnown}
use Rattle.yuv_comparisons.specs.declared.frame_report.FrameReport.{FrameReport}
use Rattle.yuv_comparisons.specs.declared.measures.Scale.{Scale}
use Rattle.yuv_reports.specs.Frames.{end_by_parts, end_of_report, frame_begin, EndsWithFrame}
use Rattle.yuv_reports.specs.Sums.{end_of_frame}
use Rattle.yuv_reports.specs.declared.comparison.Comparison.{Comparison as Said}
use Rattle.yuv_reports.specs.declared.comparison.ReportForm.{ReportForm}
use Rattle.yuv_reports.specs.Texts.{EndsWith}
use Rattle.v_frame_streams.specs.Comparisons.{errors_between, Pair, TakesEach}
use Rattle.v_frame_streams.specs.declared.comparison.Comparison.{Comparison}
use Rattle.v_frame_formats.specs.declared.sums.PlaneSums.{PlaneSums}

pub nothing_appended : (has : Option (List ℕ)) (text : List ℕ) → text ≡ [] → Appends has has text
nothing_appended None text none = tt
nothing_appended (Some xs) text none = sym (append-nil xs) ∙ ap (λ bs. xs ++ bs) (sym none)

pub ends_known : (has has' : Option (List ℕ)) (text end : List ℕ) → Appends has has' text → EndsWith end text
    → EndsKnown has has' end
ends_known None has' text end appended ends = tt
ends_known (Some xs) None text end appended ends = absurd appended
ends_known (Some xs) (Some ys) text end appended (front, e) =
    (xs ++ front, appended ∙ ap (λ bs. xs ++ bs) e ∙ sym (append_assoc xs front end))

pub still_known : (has has' : Option (List ℕ)) (text : List ℕ) → Appends has has' text → IsSome has → IsSome has'
still_known None has' text appended known =
    let no : false ≡ true = known in absurd (cc)
still_known (Some xs) None text appended known = absurd appended
still_known (Some xs) (Some ys) text appended known = refl

-- A property that each pair of frames preserves is preserved by all pairs.
pub kept_by_all : {T A : Type 0} (form : PixelForm T) (takes : A → A → Tables T → Tables T → PlaneSums → Type 0)
    (P : A → Type 0) → ((old new : A) (a b : Tables T) (errors : PlaneSums) → takes old new a b errors → P old → P new)
    → (pairs : List (Pair T)) (old new : A) → TakesEach form takes pairs old new → P old → P new
kept_by_all form takes P step [] old new each p = subst P (sym each) p
kept_by_all form takes P step (pair ∷ pairs) old new (mid, took, rest) p =
    kept_by_all form takes P step pairs mid new rest
    (step old mid pair.0 pair.1 (errors_between form pair) took p)

pub frame_known : (form : ReportForm) (number : ℕ) (sums : Option PlaneSums) (has has' : Option (List ℕ))
    (text : List ℕ) → Appends has has' text → EndsWithFrame form number sums text
    → IfSome has (λ _. IsSomeAnd has' (EndsWithFrame form number sums))
frame_known form number sums None has' text appended ends = tt
frame_known form number sums (Some xs) None text appended ends = absurd appended
frame_known form number sums (Some xs) (Some ys) text appended (front, (values, e)) = (
  xs ++ front,
  (
    values,
    appended ∙ ap (λ bs. xs ++ bs) e
        ∙ sym (append_assoc xs front (frame_begin form number ++ (values ++ end_of_frame form sums))),
  ),
)

-- The report on all frames states the result of the comparison.
pub ends_as_found : (form : ReportForm) (exact : Bool) (before : ℕ) (found : Comparison) (said : Said)
    → said.measures.sums ≡ sums_asked exact found.errors
    → said.difference ≡ option_map (difference_said before) found.difference
    → said.longer ≡ option_map longer_said found.longer
    → end_of_report form said ≡ report_end form exact before found
ends_as_found form exact before found said sums difference longer =
    ap (λ s. end_by_parts form s said.difference said.longer) sums
    ∙ ap (λ d. end_by_parts form (sums_asked exact found.errors) d said.longer) difference
    ∙ ap (λ l. end_by_parts form (sums_asked exact found.errors)
    (option_map (difference_said before) found.difference) l) longer

module _ {W : Type 0} (contents : W → Option (List ℕ)) where
  -- The report has this form, these parameters and this number of skipped frames, and the bytes of
  -- its writer are known.
  pub record IsAsked (form : ReportForm) (scale : Scale) (before : ℕ) (report : FrameReport W) : Type 0 where
    pub form_asked : report.report.form ≡ form
    pub scale_asked : report.scale ≡ scale
    pub before_asked : report.before ≡ before
    pub known : IsSome (contents report.out)

  pub stays_asked : {T : Type 0} (pixels : PixelForm T) (form : ReportForm) (scale : Scale) (before : ℕ)
      (pairs : List (Pair T)) (old new : FrameReport W)
      → TakesEach pixels (λ old new _ _ errors. ReportsFrame contents old new errors) pairs old new
      → IsAsked form scale before old → IsAsked form scale before new
  stays_asked {T} pixels form scale before pairs old new each asked =
      kept_by_all pixels (λ old new _ _ errors. ReportsFrame contents old new errors) (IsAsked form scale before)
      (λ old new a b errors took asked. record {
        form_asked = took.stays.form ∙ asked.form_asked;
        scale_asked = took.stays.scale ∙ asked.scale_asked;
        before_asked = took.stays.before ∙ asked.before_asked;
        known = took.stays.known asked.known;
      }) pairs old new each asked

  -- A property of a value that is known to exist.
  pub if_there : (X : Type 0) (there : Option (List ℕ)) → IfSome there (λ _. X) → IsSome there → X
  if_there X None holds known =
      let no : false ≡ true = known in absurd (cc)
  if_there X (Some xs) holds known = holds

  -- The bytes that were written end as a report of this form does.
  pub Ends : W → ReportForm → Bool → ℕ → Comparison → Type 0
  Ends new form exact before found = IsSomeAnd (contents new) (EndsWith (report_end form exact before found))

  pub report_ends : (has : Option (List ℕ)) (out new : W) (first mid last : FrameReport W) (form : ReportForm)
      (exact : Bool) (before : ℕ) (found : Comparison)
      → has ≡ contents out → first.out ≡ out → first.report.form ≡ form → first.scale.exact ≡ exact
      → first.before ≡ before → last.out ≡ new
      → (IsAsked form first.scale before first → IsAsked form first.scale before mid)
      → EndsKnown (contents mid.out) (contents last.out)
      (report_end mid.report.form mid.scale.exact mid.before found)
      → EndsKnown has (contents new) (report_end form exact before found)
  unfolding Ends
  report_ends None out new first mid last form exact before found same begun is asked start ended stays ends = tt
  report_ends (Some xs) out new first mid last form exact before found same begun is asked start ended stays ends =
      let there : Some xs ≡ contents first.out = same ∙ sym (ap contents begun) in
      let known : IsSome (contents first.out) = subst (λ (o : Option (List ℕ)). IsSome o) there refl in
      let kept = stays (record { form_asked = is; scale_asked = refl; before_asked = start; known = known }) in
      let said = if_there (Ends last.out mid.report.form mid.scale.exact mid.before found)
      (contents mid.out) ends kept.known in
      let at_new = subst (λ (w : W). Ends w mid.report.form mid.scale.exact mid.before found) ended said in
      let by_form = subst (λ (f : ReportForm). Ends new f mid.scale.exact mid.before found) kept.form_asked at_new in
      let by_start = subst (λ (n : ℕ). Ends new form mid.scale.exact n found) kept.before_asked by_form in
      subst (λ (e : Bool). Ends new form e before found)
      (ap (λ (s : Scale). s.exact) kept.scale_asked ∙ asked) by_start

pub on_ok_also : {A E : Type 0} (result : Result A E) (P Q : Type 0) → (P → Q) → OnOk result P → OnOk result Q
on_ok_also (Ok done) P Q also holds = also holds
on_ok_also (Err error) P Q also holds = tt
