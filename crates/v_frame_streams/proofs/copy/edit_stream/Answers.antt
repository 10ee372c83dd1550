-- The skipped frames, followed by those that were edited.
use Rattle.std.proofs.Common.{◌≡◌, ◌∙◌, ap, Bool, List, Option, ℕ, rules, subst, sym}
use Rattle.std.proofs.lemmas.Result.{err_from_is_err_and, IfOk-weaker}
use Rattle.std.specs.Prelude.{IfOk}
use Rattle.v_frame.specs.Prelude.{tables_of}
use Rattle.v_frame_planar.specs.Planar.{sizes_of}
use Rattle.v_frame_semi_planar.specs.declared.format.SemiPlanarFormat.{SemiPlanarFormat}
use Rattle.v_frame_streams.specs.Conversions.{layout_to}
use Rattle.v_frame_streams.specs.Layouts.{HoldsColor}
use Rattle.v_frame_y4m.specs.Color.{depth_of}
use Rattle.v_frame_y4m.specs.Frames.{pixel_bytes}
use Rattle.v_frame_y4m.specs.declared.header.StreamHeader.{StreamHeader}
use Rattle.v_frame_streams.specs.Breaks.{counts_of, BreaksCopy}
use Rattle.v_frame_streams.specs.Copies.{copied_header, limit_of, plan_for, Begins, Carries}
use Rattle.v_frame_streams.specs.Pictures.{sizes_in, tables_of_bytes, Sizes}
use Rattle.v_frame_streams.specs.Plans.{plan_of, planned_bytes, CanMake, Plan}
use Rattle.v_frame_streams.specs.Sources.{bytes_left, Stream}
use Rattle.v_frame_streams.specs.declared.stream.Container.{Container}
use Rattle.v_frame_streams.proofs.Copying.{none_broken, on_err_also, skipped_all, skipped_and_broken, skipped_and_carried}
use Rattle.v_frame_streams.proofs.Fitting.{can_make}
use Rattle.v_frame_streams.proofs.copy.edit_stream.Goals as goal

pub edit_frames-requires-clause-can : goal.edit_frames-requires-clause-can
edit_frames-requires-clause-can g c κs within =
    let header = c.args.source.now.header in
    let options = c.args.options.now in
    let there = c.args.source.now.layout in
    let to = c.args.sink.now.container in
    let layout = layout_to to options.format there in
    let bytes = g.S.Pixel.BYTES in
    let other = g.T.Pixel.BYTES in
    let written : g.T.Pixel.form.size ≡ pixel_bytes (depth_of (copied_header options header).color) =
    c.requires.written ∙ ap (λ (h : StreamHeader). pixel_bytes (depth_of h.color)) c.requires.header in
    let holds : HoldsColor there header.color =
    subst (λ (l : Option SemiPlanarFormat). HoldsColor l header.color) c.layout.ensures.value c.layout.ensures.holds in
    let can = can_make bytes other options header to there holds (g.met.S.Pixel.bytes_of_form ∙ c.requires.pixels)
    (g.met.T.Pixel.bytes_of_form ∙ written) c.requires.takable in
    let planned : plan_of c.in-Ok.maker ≡ plan_for options header layout = search rules in
    let by_plan = subst (λ (p : Plan). CanMake bytes other p (sizes_in header)) (sym planned) can in
    subst (λ (s : Sizes). CanMake bytes other (plan_of c.in-Ok.maker) s) (sym c.in_ok-picture.ensures.sizes) by_plan

pub returns-then-not-branch-clause-copied : goal.returns-then-not-branch-clause-copied
returns-then-not-branch-clause-copied g c =
    let from = c.args.source.now.container in
    let count = c.args.source.now.frame_len in
    let left = bytes_left g.R.Read.remaining c.args.source.now in
    let mid = bytes_left g.R.Read.remaining c.begin_copy.new.source in
    let now = g.W.Write.contents c.begin_copy.new.sink.writer.inner in
    let begun = c.in_ok-begin_copy.ensures in
    let short = subst (λ (more : Bool). Begins from count left mid c.args.options.now.skip more) c.if-not-branch.true
    begun.begun in
    skipped_all from count c.args.sink.now.container c.args.options.now c.args.header.now _ left mid mid _ now now
    begun.written short.0 short.1 short.2

pub returns-clause-copied : goal.returns-clause-copied
returns-clause-copied g c =
    let from = c.args.source.now.container in
    let count = c.args.source.now.frame_len in
    let options = c.args.options.now in
    let header = c.args.source.now.header in
    let there = c.args.source.now.layout in
    let layout = layout_to c.args.sink.now.container options.format there in
    let form = g.S.Pixel.form in
    let other = g.T.Pixel.form in
    let left = bytes_left g.R.Read.remaining c.args.source.now in
    let mid = bytes_left g.R.Read.remaining c.begin_copy.new.source in
    let rest = bytes_left g.R.Read.remaining c.edit_frames.new.source in
    let now = g.W.Write.contents c.begin_copy.new.sink.writer.inner in
    let has = g.W.Write.contents c.edit_frames.new.sink.writer.inner in
    let begun = c.in_ok-begin_copy.ensures in
    let done = c.edit_frames.result in
    let most = c.unwrap_or-most.result in
    let size = sizes_of (tables_of c.in_ok-picture.picture.frame) in
    let passed = subst (λ (more : Bool). Begins from count left mid options.skip more) c.if-not-branch.false begun.begun in
    let limit : most ≡ limit_of options = search rules in
    let bytes = λ (l : Option SemiPlanarFormat) (p : Plan) (s : Sizes) (b : List ℕ). planned_bytes form other p
    (tables_of_bytes form l s b) in
    let moved = subst (λ (s : Stream). IfOk done (Carries s.container s.frame_len mid rest now has
    c.begin_copy.new.sink.container (bytes s.layout (plan_of c.in-Ok.maker) size) most)) begun.same
    c.edit_frames.ensures.carried in
    let sent = subst (λ (k : Container). IfOk done (Carries from count mid rest now has k
    (bytes there (plan_of c.in-Ok.maker) size) most)) begun.container moved in
    let planned : plan_of c.in-Ok.maker ≡ plan_for options header layout = search rules in
    let by_plan = subst (λ (p : Plan). IfOk done (Carries from count mid rest now has c.args.sink.now.container
    (bytes there p size) most)) planned sent in
    let by_size = subst (λ (s : Sizes). IfOk done (Carries from count mid rest now has c.args.sink.now.container
    (bytes there (plan_for options header layout) s) most)) c.in_ok-picture.ensures.sizes by_plan in
    IfOk-weaker done _ _ (λ found. skipped_and_carried from count c.args.sink.now.container options c.args.header.now _ left
    mid rest _ now has begun.written found passed) (subst (λ (n : ℕ). IfOk done (Carries from count mid rest now has
    c.args.sink.now.container (bytes there (plan_for options header layout) (sizes_in header)) n)) limit by_size)

pub returns-clause-broken : goal.returns-clause-broken
returns-clause-broken g c =
    let source = c.args.source.now in
    let options = c.args.options.now in
    let from = c.begin_copy.new.source in
    let left = bytes_left g.R.Read.remaining source in
    let mid = bytes_left g.R.Read.remaining from in
    let begun = c.in_ok-begin_copy.ensures in
    let passed = subst (λ (more : Bool). Begins source.container source.frame_len left mid options.skip more)
    c.if-not-branch.false begun.begun in
    let limit : c.unwrap_or-most.result ≡ limit_of options = search rules in
    let start = counts_of source c.args.sink.now in
    let now = counts_of from c.begin_copy.new.sink in
    let after = counts_of c.edit_frames.new.source c.edit_frames.new.sink in
    on_err_also c.edit_frames.result (BreaksCopy from.container from.frame_len mid 0 c.unwrap_or-most.result now after)
    (BreaksCopy source.container source.frame_len left options.skip (limit_of options) start after)
    (λ broken. skipped_and_broken source.container source.frame_len left mid options.skip (limit_of options) start now after
    passed (begun.counted c.if-not-branch.false) begun.unwritten
    (subst (λ (s : Stream). BreaksCopy s.container s.frame_len mid 0 (limit_of options) now after) begun.same
    (subst (λ (n : ℕ). BreaksCopy from.container from.frame_len mid 0 n now after) limit broken)))
    c.edit_frames.ensures.broken

pub returns-in_err-picture-clause-broken : goal.returns-in_err-picture-clause-broken
returns-in_err-picture-clause-broken g c =
    let source = c.args.source.now in
    let p = err_from_is_err_and c.from_residual.result c.from_residual.ensures.1 in
    rw (p.1) (none_broken source.container source.frame_len (bytes_left g.R.Read.remaining source) c.args.options.now.skip
    (limit_of c.args.options.now) (counts_of source c.args.sink.now))

pub returns-in-Err-clause-broken : goal.returns-in-Err-clause-broken
returns-in-Err-clause-broken g c =
    let source = c.args.source.now in
    none_broken source.container source.frame_len (bytes_left g.R.Read.remaining source) c.args.options.now.skip
    (limit_of c.args.options.now) (counts_of source c.args.sink.now)
