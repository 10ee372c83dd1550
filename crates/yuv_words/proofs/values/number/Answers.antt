-- If a text begins as a number does, `parse` succeeds exactly for the text of a number.
use Rattle.std.proofs.Common.{◌≡◌, ◌∙◌, ◌≢◌, List, ℕ, rules, subst, get_or, length}
use Rattle.std.specs.Prelude.{Ok, Err}
use Rattle.v_frame_y4m.proofs.NumberTexts.{written_so}
use Rattle.yuv_words.proofs.Cuts.{parsed_number}
use Rattle.yuv_words.proofs.values.number.Goals as goal

pub returns-then-not-has_canonical_start : goal.returns-then-not-has_canonical_start
returns-then-not-has_canonical_start c = λ n is.
    let same : c.as_bytes.result.now ≡ c.args.text.now = search rules in
    let yes = c.has_canonical_start.ensures.1 (written_so n c.as_bytes.result.now is.1 (same ∙ is.0)) in
    search rules

abbrev pub BeginsSo : List ℕ → Type 0
BeginsSo bs = (get_or bs 0 0 ≢ 43) × (get_or bs 0 0 ≡ 48 → length bs ≡ 1)

pub returns-in-Ok : goal.returns-in-Ok
returns-in-Ok c =
    let same : c.as_bytes.result.now ≡ c.args.text.now = search rules in
    let so : BeginsSo c.args.text.now = subst BeginsSo same (c.has_canonical_start.ensures.0 (search rules)) in
    parsed_number {E = Unit {0}} c.args.text.now so.0 so.1 (Ok c.in-Ok.n) c.in-Ok.ensures.value.0

pub returns-in-Err : goal.returns-in-Err
returns-in-Err c =
    let same : c.as_bytes.result.now ≡ c.args.text.now = search rules in
    let so : BeginsSo c.args.text.now = subst BeginsSo same (c.has_canonical_start.ensures.0 (search rules)) in
    parsed_number c.args.text.now so.0 so.1 (Err c.in-Err.field-0) c.in-Err.ensures.value.0
