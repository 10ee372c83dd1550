-- Each step of the loop adds one more copy.
use Rattle.std.proofs.Common.{◌++◌, ◌∷◌, [], None, replicate, ap, ◌∙◌, arith}
use Rattle.std.proofs.lemmas.List.{replicate_more}
use Rattle.v_frame_buffer.proofs.aligned.AlignedData+Option+T.without_values.Goals as goal

pub loop-preserved : goal.loop-preserved
loop-preserved g c = record {
  entries = c.push.ensures.items ∙ ap (λ items. items ++ None ∷ []) c.loop.invariant.entries ∙ replicate_more
      c.loop.counter None;
  room = omega (arith, c.push.ensures.spare, c.loop.invariant.room);
}

pub finish-requires : goal.finish-requires
finish-requires g c = omega (arith, c.loop.invariant.room, c.loop-test.false)

pub returns-clause-entries : goal.returns-clause-entries
returns-clause-entries g c =
    c.finish.ensures ∙ c.loop.invariant.entries ∙ ap (λ n. replicate n None)
    (omega (arith, c.loop-test.false, c.loop.auto.counter-end))
