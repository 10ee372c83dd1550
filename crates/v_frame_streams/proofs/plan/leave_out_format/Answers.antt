-- `retain` keeps the items that its test filters.
use Rattle.std.proofs.Common.{rules, ◌∙◌, ap}
use Rattle.std.proofs.lemmas.List.Elements.{filter_from_retain}
use Rattle.v_frame_streams.specs.Copies.{without_format}
use Rattle.v_frame_streams.proofs.plan.leave_out_format.Goals as goal

pub returns : goal.returns
returns c =
    c.from.ensures
    ∙ filter_from_retain _ _ (λ _ extension _ _ call. search rules) _ _ _ c.retain.ensures.filtered
    ∙ ap without_format c.into_vec-kept.ensures
