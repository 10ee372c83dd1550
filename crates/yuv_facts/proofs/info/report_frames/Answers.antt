-- The frames before the one that could not be read were counted, and their number was written.
use Rattle.std.proofs.Common.{◌≡◌, Err, Result, subst, ℕ}
use Rattle.std.proofs.lemmas.Result.{err_from_is_err_and}
use Rattle.std.specs.Prelude.{string_bytes, IfErr}
use Rattle.yuv_facts.specs.Info.{count_line}
use Rattle.yuv_reports.specs.Texts.{BeginsWith}
use Rattle.yuv_facts.proofs.Counting.{made_and_written}
use Rattle.yuv_facts.proofs.info.report_frames.Goals as goal

error_of : {A E : Type 0} (r : Result A E) (e : E) (P : E → Type 0) → r ≡ Err e → IfErr r P → P e
error_of r e P is holds = subst (λ s. IfErr s P) is holds

pub returns-in_err-counted-clause-broken : goal.returns-in_err-counted-clause-broken
returns-in_err-counted-clause-broken g c asked =
    let counted = c.skip_frames-counted in
    let error = c.in_err-counted.field-0.0 in
    let both = made_and_written c.frames_text.result _ _ c.in_ok-write_made.ensures.made c.frames_text.ensures in
    let whole = error_of counted.result error _ c.in_err-counted.was c.frames_counted-frames.ensures.whole in
    let p = err_from_is_err_and c.from_residual-in_err-counted.result c.from_residual-in_err-counted.ensures.1 in
    rw (p.1, p.2) (λ place. record {
      after = counted.new.source.frames;
      stops = error_of counted.result error _ c.in_err-counted.was counted.ensures.problem;
      text = string_bytes both.0;
      says = subst (λ (n : ℕ). BeginsWith (count_line n) (string_bytes both.0)) whole both.2;
      written = both.1;
    })
