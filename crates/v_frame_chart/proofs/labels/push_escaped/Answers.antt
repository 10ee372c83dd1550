-- The characters that the iterator returned are those of the text.
use Rattle.std.proofs.Common.{◌++◌, sym, ap, ◌∙◌, string_bytes}
use Rattle.std.specs.Prelude.{flat_map}
use Rattle.std.proofs.lemmas.Iterator.{YieldsList-from_chars}
use Rattle.std.proofs.lemmas.Iterator.Consumers.{YieldsList-end}
use Rattle.std.proofs.lemmas.List.{map-id}
use Rattle.v_frame_chart.specs.Labels.{escaped}
use Rattle.v_frame_chart.proofs.labels.push_escaped.Goals as goal

pub returns : goal.returns
returns c =
    let loop = c.loop-letter in
    let end =
    YieldsList-end (YieldsList-from_chars c.args.words.now c.utf8.words cc) loop.yielded _ loop.yielded_by _ _
    c.in-None.is c.next.ensures.steps in
    loop.invariant
    ∙ ap (λ letters. string_bytes c.args.text.now ++ flat_map escaped letters) (sym (map-id loop.yielded) ∙ end.0)
