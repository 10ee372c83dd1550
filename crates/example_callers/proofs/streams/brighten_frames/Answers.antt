-- One more frame was copied with brighter luma.
use Rattle.std.proofs.Common.{◌≡◌, ◌∙◌, ap, rules}
use Rattle.v_frame.specs.Prelude.{tables_of}
use Rattle.v_frame_planar.specs.Planar.{sizes_of}
use Rattle.example_callers.specs.Streams.{brighter}
use Rattle.example_callers.proofs.Carrying.{none_yet, no_more_frames, one_more_frame, brighter_sizes}
use Rattle.example_callers.proofs.streams.brighten_frames.Goals as goal

pub loop-done-init : goal.loop-done-init
loop-done-init g c = record { carried = none_yet; sized = search rules }

pub returns-then-not-branch-clause-carried : goal.returns-then-not-branch-clause-carried
returns-then-not-branch-clause-carried g c = no_more_frames c.loop-done.invariant.carried (search rules)

pub loop-done-preserved : goal.loop-done-preserved
loop-done-preserved g c =
    let before = c.loop-done.invariant in let shown = tables_of c.read_frame.new.frame in
    let changed : tables_of c.brighten.new.frame ≡ brighter c.args.by shown = c.in_ok-brighten.ensures.tables in
    let sized = c.in_ok-read_frame.ensures.sizes ∙ before.sized in
    record {
      carried = one_more_frame before.carried shown sized (search rules) changed c.in_ok-write_frame.ensures.ok;
      sized = ap sizes_of changed ∙ brighter_sizes c.args.by shown ∙ sized;
    }
