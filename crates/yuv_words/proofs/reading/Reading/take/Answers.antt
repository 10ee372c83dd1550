-- Each argument that is read completes a token or begins one.
use Rattle.std.proofs.Common.{refl, ◌∷◌, [], ap, sym, ◌∙◌, inl, inr}
use Rattle.std.proofs.lemmas.Result.{err_from_is_err_and}
use Rattle.yuv_words.specs.Words.{Flag, Joined}
use Rattle.yuv_words.proofs.TokenSteps.{await_read, file_read, value_read, whole_read}
use Rattle.yuv_words.proofs.reading.Reading.take.Goals as goal

pub returns-in-Some-clause-read : goal.returns-in-Some-clause-read
returns-in-Some-clause-read c = λ words read.
    value_read _ words _ _ _ c.in-Some.option c.in-Some.is refl refl c.set.ensures.given c.set.ensures.others read

pub returns-in-Some-with-clause-read : goal.returns-in-Some-with-clause-read
returns-in-Some-with-clause-read c = λ words read.
    file_read _ words _ _ _ c.in-File.ensures c.in-Some-with.ensures.some c.in-Some-with.ensures.room refl c.in_default.is c.in_default.is read

pub returns-in_err-admit-in-Option-clause-fault : goal.returns-in_err-admit-in-Option-clause-fault
returns-in_err-admit-in-Option-clause-fault c =
    let p = err_from_is_err_and c.from_residual.result c.from_residual.ensures.1 in
    rw (p.1, p.2) (λ words rest read. c.in_err-admit-in-Option.ensures.fault c.args.word.now words rest
    (inl c.in-Option.ensures) c.in_default.is read)

pub returns-in_err-admit-in-Joined-clause-fault : goal.returns-in_err-admit-in-Joined-clause-fault
returns-in_err-admit-in-Joined-clause-fault c =
    let p = err_from_is_err_and c.from_residual-in_err-admit-in-Joined.result
    c.from_residual-in_err-admit-in-Joined.ensures.1 in
    rw (p.1, p.2) (λ words rest read. c.in_err-admit-in-Joined.ensures.fault c.args.word.now words rest
    (inr (c.in-Joined.value.now, c.in-Joined.ensures)) c.in_default.is read)

pub returns-then-takes_value-clause-read : goal.returns-then-takes_value-clause-read
returns-then-takes_value-clause-read c = λ words read.
    await_read _ words _ _ _ c.in-Option.option c.in-Option.ensures (sym c.takes_value.ensures ∙ c.if-takes_value.true)
    c.in_ok-admit-in-Option.ensures.own c.in_ok-admit-in-Option.ensures.first refl refl c.in_default.is refl read

pub returns-else-takes_value-clause-read : goal.returns-else-takes_value-clause-read
returns-else-takes_value-clause-read c = λ words read.
    whole_read _ words _ _ _ (Flag c.in-Option.option) c.in-Option.option [] (λ n. refl)
    (sym c.takes_value.ensures ∙ c.if-takes_value.false) refl (ap (λ w. w ∷ []) (sym c.in-Option.ensures))
    c.in_ok-admit-in-Option.ensures.own c.in_ok-admit-in-Option.ensures.first c.set-in-Option.ensures.given
    c.set-in-Option.ensures.others refl c.in_default.is c.in_default.is read

pub returns-else-not-takes_value-clause-read : goal.returns-else-not-takes_value-clause-read
returns-else-not-takes_value-clause-read c = λ words read.
    whole_read _ words _ _ _ (Joined c.in-Joined.option c.in-Joined.value.now) c.in-Joined.option c.in-Joined.value.now
    (λ n. refl) (sym c.takes_value-in-Joined.ensures ∙ c.if-not-takes_value.false) refl
    (ap (λ w. w ∷ []) (sym c.in-Joined.ensures)) c.in_ok-admit-in-Joined.ensures.own
    c.in_ok-admit-in-Joined.ensures.first c.set-in-Joined.ensures.given c.set-in-Joined.ensures.others refl
    c.in_default.is c.in_default.is read
