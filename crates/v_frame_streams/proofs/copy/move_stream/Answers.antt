-- The skipped frames, followed by those that were copied unchanged.
use Rattle.std.proofs.Common.{◌≡◌, Bool, ℕ, rules, subst}
use Rattle.std.proofs.lemmas.Result.{IfOk-weaker}
use Rattle.std.specs.Prelude.{IfOk}
use Rattle.v_frame_streams.specs.Breaks.{counts_of, BreaksCopy}
use Rattle.v_frame_streams.specs.Copies.{limit_of, same_bytes, Begins, Carries}
use Rattle.v_frame_streams.specs.Sources.{bytes_left, Stream}
use Rattle.v_frame_streams.specs.declared.stream.Container.{Container}
use Rattle.v_frame_streams.proofs.Copying.{on_err_also, skipped_and_broken, skipped_and_carried}
use Rattle.v_frame_streams.proofs.copy.move_stream.Goals as goal

pub returns-clause-copied : goal.returns-clause-copied
returns-clause-copied g c =
    let from = c.args.source.now.container in
    let count = c.args.source.now.frame_len in
    let options = c.args.options.now in
    let left = bytes_left g.R.Read.remaining c.args.source.now in
    let mid = bytes_left g.R.Read.remaining c.begin_copy.new.source in
    let rest = bytes_left g.R.Read.remaining c.move_frames.new.source in
    let now = g.W.Write.contents c.begin_copy.new.sink.writer.inner in
    let has = g.W.Write.contents c.move_frames.new.sink.writer.inner in
    let begun = c.in_ok-begin_copy.ensures in
    let done = c.move_frames.result in
    let most = c.unwrap_or-most.result in
    let passed = subst (λ (more : Bool). Begins from count left mid options.skip more) c.if-not-branch.false begun.begun in
    let limit : most ≡ limit_of options = search rules in
    let moved = subst (λ (s : Stream). IfOk done (Carries s.container s.frame_len mid rest now has
    c.begin_copy.new.sink.container same_bytes most)) begun.same c.move_frames.ensures.carried in
    let sent = subst (λ (k : Container). IfOk done (Carries from count mid rest now has k same_bytes most)) begun.container
    moved in
    IfOk-weaker done _ _ (λ found. skipped_and_carried from count c.args.sink.now.container options c.args.header.now
    same_bytes left mid rest _ now has begun.written found passed) (subst (λ (n : ℕ). IfOk done (Carries from count mid rest
    now has c.args.sink.now.container same_bytes n)) limit sent)

pub returns-clause-broken : goal.returns-clause-broken
returns-clause-broken g c =
    let source = c.args.source.now in
    let options = c.args.options.now in
    let from = c.begin_copy.new.source in
    let left = bytes_left g.R.Read.remaining source in
    let mid = bytes_left g.R.Read.remaining from in
    let begun = c.in_ok-begin_copy.ensures in
    let passed = subst (λ (more : Bool). Begins source.container source.frame_len left mid options.skip more)
    c.if-not-branch.false begun.begun in
    let limit : c.unwrap_or-most.result ≡ limit_of options = search rules in
    let start = counts_of source c.args.sink.now in
    let now = counts_of from c.begin_copy.new.sink in
    let after = counts_of c.move_frames.new.source c.move_frames.new.sink in
    on_err_also c.move_frames.result (BreaksCopy from.container from.frame_len mid 0 c.unwrap_or-most.result now after)
    (BreaksCopy source.container source.frame_len left options.skip (limit_of options) start after)
    (λ broken. skipped_and_broken source.container source.frame_len left mid options.skip (limit_of options) start now after
    passed (begun.counted c.if-not-branch.false) begun.unwritten
    (subst (λ (s : Stream). BreaksCopy s.container s.frame_len mid 0 (limit_of options) now after) begun.same
    (subst (λ (n : ℕ). BreaksCopy from.container from.frame_len mid 0 n now after) limit broken)))
    c.move_frames.ensures.broken
