-- An argument before `--` requests help, or none does.
use Rattle.std.proofs.Common.{ℕ, ◌≡◌, ◌<◌, ◌∙◌, List, [], ◌∷◌, Bool, true, false, below_more, arith, ap, get_or, length, refl, rules, subst, sym}
use Rattle.std.specs.List.{list_any}
use Rattle.yuv_words.specs.Calls.{is_help_option, AsksHelp}
use Rattle.yuv_words.specs.Words.{before_end, texts_of}
use Rattle.yuv_words.proofs.Asked.{asked_here, asked_nowhere}
use Rattle.yuv_words.proofs.Texts.{text_at}
use Rattle.yuv_words.proofs.call.help_topic.Goals as goal

pub loop-word-preserved : goal.loop-word-preserved
loop-word-preserved c = below_more _ _ c.loop-word.invariant
    (ap is_help_option (text_at c.cut_at_end.result.0.now c.loop-word.word-index _ c.loop-word-test.true)
    ∙ sym c.is_help_option.ensures ∙ c.if-is_help_option.false)

asks : (words rest : List (List ℕ)) (first : List ℕ) → words ≡ first ∷ rest
    → list_any is_help_option (before_end rest) ≡ true → AsksHelp words
asks words rest first is any = subst AsksHelp (sym is) any

asks_not : (words rest : List (List ℕ)) (first : List ℕ) → words ≡ first ∷ rest
    → list_any is_help_option (before_end rest) ≡ false → AsksHelp words → false ≡ true
asks_not words rest first is none asked = sym none ∙ subst AsksHelp is asked

pub returns-then-is_help_option : goal.returns-then-is_help_option
returns-then-is_help_option c =
    let is : texts_of c.args.words.now ≡ c.in-Some.field-0-0.now.now ∷ texts_of c.in-Some.rest.now = search rules in
    let here = asked_here is_help_option c.cut_at_end.result.0.now c.loop-word.word-index _ c.loop-word-test.true
    (sym c.is_help_option.ensures ∙ c.if-is_help_option.true) in
    record {
      asked = (
        (λ _. asks _ _ _ is
            (sym (ap (λ (words : List (List ℕ)). list_any is_help_option words) c.cut_at_end.ensures.before) ∙ here)),
        (λ _. refl),
      );
    }

pub returns : goal.returns
returns c =
    let is : texts_of c.args.words.now ≡ c.in-Some.field-0-0.now.now ∷ texts_of c.in-Some.rest.now = search rules in
    let nowhere = asked_nowhere is_help_option c.cut_at_end.result.0.now (λ k within. c.loop-word.invariant k
    (omega (arith, within, c.loop-word-test.false, c.loop-word.auto.word-index-end))) in
    record {
      asked = (
        (λ no. absurd (search (rules, no))),
        asks_not _ _ _ is
            (sym (ap (λ (words : List (List ℕ)). list_any is_help_option words) c.cut_at_end.ensures.before) ∙ nowhere),
      );
    }
