-- Each step of the loop adds one more copy.
use Rattle.std.proofs.Common.{◌++◌, ◌∷◌, [], replicate, ap, ◌∙◌, arith}
use Rattle.std.proofs.lemmas.List.{replicate_more}
use Rattle.v_frame_buffer.proofs.aligned.AlignedData.new.Goals as goal

pub loop-preserved : goal.loop-preserved
loop-preserved g c = record {
  entries = c.push.ensures.items ∙ ap (λ items. items ++ c.args.value ∷ []) c.loop.invariant.entries ∙ replicate_more
      c.loop.counter c.args.value;
  room = omega (arith, c.push.ensures.spare, c.loop.invariant.room);
}

pub finish-requires : goal.finish-requires
finish-requires g c = omega (arith, c.loop.invariant.room, c.loop-test.false)

pub returns-clause-copies : goal.returns-clause-copies
returns-clause-copies g c =
    c.finish.ensures ∙ c.loop.invariant.entries ∙ ap (λ n. replicate n c.args.value)
    (omega (arith, c.loop-test.false, c.loop.auto.counter-end))
