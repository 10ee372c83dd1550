-- `retain` keeps the items for which its test is true.
use Rattle.std.proofs.Common.{rules, ◌≡◌, ◌∙◌, ap, subst, sym, All}
use Rattle.std.proofs.lemmas.List.Elements.{filter_from_retain, All-filter}
use Rattle.v_frame_y4m.specs.Header.{IsPiece}
use Rattle.example_recipes.specs.TurnedHeader.{without_format}
use Rattle.example_recipes.proofs.turned.without_format.Goals as goal

pub returns-clause-kept : goal.returns-clause-kept
returns-clause-kept c =
    c.from.ensures
    ∙ filter_from_retain _ _ (λ _ extension _ _ call. search rules) _ _ _ c.retain.ensures.filtered
    ∙ ap without_format c.into_vec-kept.ensures

pub returns-clause-pieces : goal.returns-clause-pieces
returns-clause-pieces c pieces =
    subst (All IsPiece) (sym (returns-clause-kept c)) (All-filter _ IsPiece c.args.extensions pieces)
