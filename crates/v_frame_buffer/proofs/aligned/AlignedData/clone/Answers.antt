-- Each step of the loop adds the next entry of the source.
use Rattle.std.proofs.Common.{ℕ, ◌≡◌, List, [], ◌∷◌, ◌++◌, ◌+◌, ◌<◌, take, length, get_or, ◌∙◌, arith}
use Rattle.std.proofs.lemmas.List.{take_all}
use Rattle.std.proofs.lemmas.Grind.{common_steps}
use Rattle.v_frame_buffer.proofs.aligned.AlignedData.clone.Goals as goal

one_more : {A : Type 0} (made source : List A) (i : ℕ) (entry : A) → i < length source → made ≡ take i source → entry ≡
    get_or source i entry →
    made ++ entry ∷ [] ≡ take (i + 1) source
one_more made source i entry h e is = grind (arith, common_steps)

pub loop-entry-preserved : goal.loop-entry-preserved
loop-entry-preserved g c = record {
  entries = c.push.ensures.items ∙ one_more c.loop-entry.filling.items c.as_slice-entry-items.result.now
      c.loop-entry.entry-index c.entry-item.result
      c.loop-entry-test.true c.loop-entry.invariant.entries c.entry-item.is;
  room = omega (arith, c.push.ensures.spare, c.loop-entry.invariant.room);
}

pub returns-clause-same : goal.returns-clause-same
returns-clause-same g c =
    c.finish.ensures ∙ c.loop-entry.invariant.entries ∙ take_all c.loop-entry.entry-index
    c.as_slice-entry-items.result.now c.loop-entry-test.false ∙
    c.as_slice-entry-items.ensures
