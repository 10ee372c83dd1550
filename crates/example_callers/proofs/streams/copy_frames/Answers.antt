-- One more frame was copied unchanged.
use Rattle.std.proofs.Common.{◌≡◌, ◌∙◌, refl, rules, arith}
use Rattle.v_frame.specs.Prelude.{tables_of}
use Rattle.example_callers.proofs.Carrying.{none_yet, no_more_frames, one_more_frame}
use Rattle.example_callers.proofs.streams.copy_frames.Goals as goal

pub loop-count-init : goal.loop-count-init
loop-count-init g c = record { carried = none_yet; sized = search rules }

pub returns-then-not-branch-clause-carried : goal.returns-then-not-branch-clause-carried
returns-then-not-branch-clause-carried g c = no_more_frames c.loop-count.invariant.carried (search rules)

pub loop-count-preserved : goal.loop-count-preserved
loop-count-preserved g c =
    let before = c.loop-count.invariant in let sized = c.in_ok-read_frame.ensures.sizes ∙ before.sized in
    record {
      carried = one_more_frame before.carried (tables_of c.read_frame.new.frame) sized (search rules) refl
          c.in_ok-write_frame.ensures.ok;
      sized = sized;
    }

pub returns-clause-carried : goal.returns-clause-carried
returns-clause-carried g c =
    let all : c.loop-count.count ≡ c.args.most = omega arith in
    rw all at c.loop-count.invariant.carried
