-- The change of the result by one more pair of frames, and the pair that the observer receives.
use Rattle.std.proofs.Common.{◌∙◌, ap, arith, subst}
use Rattle.v_frame.specs.Prelude.{tables_of}
use Rattle.v_frame_streams.specs.Comparisons.{Pair}
use Rattle.v_frame_formats.specs.Sums.{added}
use Rattle.v_frame_formats.specs.declared.sums.PlaneSums.{PlaneSums}
use Rattle.v_frame_streams.proofs.Comparing.{errors_by_planes}
use Rattle.v_frame_streams.proofs.compare.compare_pair.Goals as goal

pub returns-clause-adds : goal.returns-clause-adds
returns-clause-adds g c =
    let with = c.with_frames-now.ensures in
    let sums = c.squared_errors_of_frames-errors in
    let pair : Pair g.row.T.Denot = (tables_of c.args.first.now, tables_of c.args.second.now) in
    let errors = errors_by_planes g.T.Pixel.form pair sums.result sums.ensures.y sums.ensures.u sums.ensures.v in
    record {
      frames = with.frames ∙ omega (arith, c.requires.fewer);
      errors = with.errors ∙ ap (λ (e : PlaneSums). added c.args.found.now.errors e) errors;
      stays = with.earlier;
      same = with.same;
      first = with.first;
    }

pub returns-clause-taken : goal.returns-clause-taken
returns-clause-taken g c =
    let sums = c.squared_errors_of_frames-errors in
    let pair : Pair g.row.T.Denot = (tables_of c.args.first.now, tables_of c.args.second.now) in
    subst (λ (e : PlaneSums). g.O.FrameObserver.takes c.args.observer.now c.take.new.self pair.0 pair.1 e)
    (errors_by_planes g.T.Pixel.form pair sums.result sums.ensures.y sums.ensures.u sums.ensures.v)
    c.in_ok-take.ensures.taken
