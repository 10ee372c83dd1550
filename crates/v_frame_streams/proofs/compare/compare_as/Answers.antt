-- The skipped frames, followed by those that were compared and observed.
use Rattle.std.proofs.Common.{ℕ, ◌≡◌, rules, subst}
use Rattle.std.proofs.lemmas.Result.{IfOk-weaker}
use Rattle.std.specs.Prelude.{unwrap_or, IfOk}
use Rattle.v_frame_streams.specs.Comparisons.{Watches}
use Rattle.v_frame_streams.specs.Pictures.{sizes_in, Sizes}
use Rattle.v_frame_streams.specs.Sources.{bytes_left, stream_of, Stream}
use Rattle.v_frame_streams.specs.Streams.{most_frames}
use Rattle.v_frame_streams.specs.declared.comparison.Comparison.{Comparison}
use Rattle.v_frame_streams.proofs.compare.compare_as.Goals as goal

pub returns-clause-taken : goal.returns-clause-taken
returns-clause-taken g c =
    let form = g.T.Pixel.form in
    let takes = g.O.FrameObserver.takes in
    let old = c.args.observer.now in
    let new = c.compare_frames.new.observer in
    let one = stream_of c.args.first.now in
    let other = stream_of c.args.second.now in
    let start = bytes_left g.R.Read.remaining c.skip_frames.new.source in
    let begin = bytes_left g.S.Read.remaining c.skip_frames-2.new.source in
    let left = bytes_left g.R.Read.remaining c.compare_frames.new.first in
    let right = bytes_left g.S.Read.remaining c.compare_frames.new.second in
    let size = sizes_in c.args.first.now.header in
    let done = c.compare_frames.result in
    let most = c.unwrap_or-most.result in
    let by_size = subst (λ (s : Sizes). IfOk done (Watches form s takes old new (stream_of c.skip_frames.new.source)
    (stream_of c.skip_frames-2.new.source) start left begin right most)) c.in_ok-one.ensures.sizes
    c.compare_frames.ensures.taken in
    let by_first = subst (λ (s : Stream). IfOk done (Watches form size takes old new s (stream_of c.skip_frames-2.new.source)
    start left begin right most)) c.in_ok-skip_frames.ensures.same by_size in
    let by_second = subst (λ (s : Stream). IfOk done (Watches form size takes old new one s start left begin right most))
    c.in_ok-skip_frames-2.ensures.same by_first in
    let asked = unwrap_or c.args.options.now.count most_frames in
    let limit : most ≡ asked = search rules in
    IfOk-weaker done _ _ (λ (found : Comparison) (all : Watches form size takes old new one other start left begin right asked found). (
      record {
        start = start;
        begin = begin;
        skipped = (c.in_ok-skip_frames.field-0, c.in_ok-skip_frames.ensures.counted);
        also_skipped = (c.in_ok-skip_frames-2.field-0, c.in_ok-skip_frames-2.ensures.counted);
        compared = all.0;
      },
      all.1,
    )) (subst (λ (n : ℕ). IfOk done (Watches form size takes old new one other start left begin right n)) limit by_second)

pub returns-clause-compared : goal.returns-clause-compared
returns-clause-compared g c = IfOk-weaker c.compare_frames.result _ _ (λ found all. all.0) (returns-clause-taken g c)
