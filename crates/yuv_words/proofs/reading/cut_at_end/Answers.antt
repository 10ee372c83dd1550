-- The texts of the two parts are the two parts of the texts.
use Rattle.std.proofs.Common.{◌∙◌, ap, sym, take, drop, ◌+◌}
use Rattle.std.proofs.lemmas.List.{take-map}
use Rattle.yuv_words.specs.Words.{texts_of}
use Rattle.yuv_words.proofs.Texts.{texts_after}
use Rattle.yuv_words.proofs.reading.cut_at_end.Goals as goal

pub returns-clause-before : goal.returns-clause-before
returns-clause-before c =
    ap texts_of c.split_at.ensures.front ∙ sym (take-map _ c.end_place.result c.args.words.now)
    ∙ ap (λ k. take k (texts_of c.args.words.now)) c.end_place.ensures.place

pub returns-clause-after : goal.returns-clause-after
returns-clause-after c =
    ap texts_of (c.without_first.ensures ∙ ap (λ xs. drop 1 xs) c.split_at.ensures.back)
    ∙ texts_after c.args.words.now c.end_place.result
    ∙ ap (λ k. drop (k + 1) (texts_of c.args.words.now)) c.end_place.ensures.place
