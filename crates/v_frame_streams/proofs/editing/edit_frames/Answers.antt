-- One more frame was edited and written.
use Rattle.std.proofs.Common.{◌≡◌, ◌∙◌, ◌++◌, ◌∷◌, [], Bool, true, arith, inl, inr, length-append, refl, rules, subst, sym}
use Rattle.std.proofs.lemmas.Result.{err_from_is_err_and}
use Rattle.std.specs.Io.KnownBytes.{Appends}
use Rattle.v_frame.specs.Prelude.{tables_of, Tables}
use Rattle.v_frame_planar.specs.Planar.{sizes_of}
use Rattle.v_frame_streams.specs.Pictures.{tables_of_bytes, ReadsTables, Sizes}
use Rattle.v_frame_streams.specs.Plans.{plan_of, planned_bytes, CanMake, Plan}
use Rattle.v_frame_streams.specs.Sources.{bytes_left, Stream}
use Rattle.v_frame_streams.specs.Streams.{frames_after, written_bytes, Framed}
use Rattle.v_frame_streams.specs.declared.stream.Container.{Container}
use Rattle.v_frame_streams.proofs.Reading.{none_carried, one_more_carried, one_more_read}
use Rattle.v_frame_streams.proofs.MoreTold.{one_more_told}
use Rattle.v_frame_streams.proofs.editing.edit_frames.Goals as goal

pub write_frame-requires : goal.write_frame-requires
write_frame-requires g c =
    let before = c.loop-count.invariant in
    let can = c.requires.can in
    let by_plan = subst (λ (p : Plan). CanMake g.S.Pixel.BYTES g.T.Pixel.BYTES p
    (sizes_of (tables_of c.args.picture.now.frame))) (sym before.plan) can in
    let by_size = subst (λ (s : Sizes). CanMake g.S.Pixel.BYTES g.T.Pixel.BYTES (plan_of c.loop-count.maker) s)
    (sym (c.in_ok-read.ensures.sizes ∙ before.sizes)) by_plan in
    (c.type_bounds.static-S, (c.type_bounds.static-T, by_size))

pub loop-count-init : goal.loop-count-init
loop-count-init g c = record {
  carried = none_carried _ _ _ _ _ _;
  same = refl;
  made = c.requires.made;
  sizes = refl;
  plan = refl;
  to = refl;
  read = search rules;
  written = search rules;
  told = refl;
}

pub loop-count-preserved : goal.loop-count-preserved
loop-count-preserved g c =
    let before = c.loop-count.invariant in
    let form = g.S.Pixel.form in
    let other = g.T.Pixel.form in
    let size = sizes_of (tables_of c.args.picture.now.frame) in
    let plan = plan_of c.args.maker.now in
    let done = c.in_ok-read.ensures in
    let sent = c.in_ok-write_frame.ensures in
    let shown = tables_of c.read.new.self.frame in
    let read = c.read.new.self.bytes.items in
    let mid = bytes_left g.R.Read.remaining c.loop-count.source in
    let left = bytes_left g.R.Read.remaining c.read.new.source in
    let now = g.W.Write.contents c.loop-count.sink.writer.inner in
    let has = g.W.Write.contents c.write_frame.new.sink.writer.inner in
    let one = subst (λ (more : Bool). ReadsTables form c.loop-count.source.container c.loop-count.source.frame_len c.loop-count.source.layout
    (sizes_of (tables_of c.loop-count.picture.frame)) mid left read shown more) c.if-not-branch.false done.read in
    let sized = subst (λ (s : Sizes). ReadsTables form c.loop-count.source.container c.loop-count.source.frame_len c.loop-count.source.layout s mid
    left read shown true) before.sizes one in
    let next = subst (λ (s : Stream). ReadsTables form s.container s.frame_len s.layout size mid left read shown true) before.same
    sized in
    let by_plan = subst (λ (p : Plan). Appends now has (written_bytes c.loop-count.sink.container
    (planned_bytes form other p shown))) before.plan sent.ok in
    let by_bytes = subst (λ (t : Tables g.row.S.Denot). Appends now has (written_bytes c.loop-count.sink.container
    (planned_bytes form other plan t))) next.3 by_plan in
    let written = subst (λ (k : Container). Appends now has (written_bytes k
    (planned_bytes form other plan (tables_of_bytes form c.args.source.now.layout size read)))) before.to by_bytes in
    let counted = subst (λ (more : Bool). c.read.new.source.frames ≡ frames_after c.loop-count.source.frames more)
    c.if-not-branch.false done.frames in
    record {
      carried = one_more_carried _ _ _ _ _ mid left _ now has _ before.carried (next.0, read) next.1 next.2 written;
      same = done.same ∙ before.same;
      made = done.made;
      sizes = done.sizes ∙ before.sizes;
      plan = sent.plan ∙ before.plan;
      to = sent.container ∙ before.to;
      read = omega (arith, before.read, counted);
      written = omega (arith, before.written, sent.counted);
      told = one_more_told g.P.Progress.shows _ _ _ _ before.told c.show_one_more.ensures;
    }

-- The frame that was not written is the last one that was read.
pub returns-in_err-write_frame-clause-broken : goal.returns-in_err-write_frame-clause-broken
returns-in_err-write_frame-clause-broken g c =
    let before = c.loop-count.invariant in
    let done = c.in_ok-read.ensures in
    let shown = tables_of c.read.new.self.frame in
    let read = c.read.new.self.bytes.items in
    let mid = bytes_left g.R.Read.remaining c.loop-count.source in
    let left = bytes_left g.R.Read.remaining c.read.new.source in
    let size = sizes_of (tables_of c.loop-count.picture.frame) in
    let one = subst (λ (more : Bool). ReadsTables g.S.Pixel.form c.loop-count.source.container c.loop-count.source.frame_len
    c.loop-count.source.layout size mid left read shown more) c.if-not-branch.false done.read in
    let next = subst (λ (s : Stream). ReadsTables g.S.Pixel.form s.container s.frame_len s.layout size mid left read shown true)
    before.same one in
    let frame : Framed = (next.0, read) in
    let frames = before.carried.frames in
    let long = length-append frames (frame ∷ []) in
    let counted = subst (λ (more : Bool). c.read.new.source.frames ≡ frames_after c.loop-count.source.frames more)
    c.if-not-branch.false done.frames in
    let p = err_from_is_err_and c.from_residual-in_err-write_frame.result
    c.from_residual-in_err-write_frame.ensures.1 in
    rw (p.1) record {
      frames = frames ++ frame ∷ [];
      mid = left;
      read = one_more_read _ _ _ mid left frames before.carried.read frame next.1 next.2;
      bound = omega (arith, long, before.carried.counted, c.loop-count-test.true);
      counted = inl (omega (arith, long, counted, before.read, before.carried.counted));
      written = c.loop-count.count;
      also_counted = inl (omega (arith, c.in_err-write_frame.ensures.uncounted, before.written));
      behind = inr (omega (arith, long, before.carried.counted));
    }

-- The frame that was not read comes after those that were written.
pub returns-in_err-read-clause-broken : goal.returns-in_err-read-clause-broken
returns-in_err-read-clause-broken g c =
    let before = c.loop-count.invariant in
    let p = err_from_is_err_and c.from_residual.result c.from_residual.ensures.1 in
    rw (p.1) record {
      frames = before.carried.frames;
      mid = bytes_left g.R.Read.remaining c.loop-count.source;
      read = before.carried.read;
      bound = omega (arith, before.carried.counted, c.loop-count-test.true);
      counted = inl (omega (arith, c.in_err-read.ensures.uncounted, before.read, before.carried.counted));
      written = c.loop-count.count;
      also_counted = inl before.written;
      behind = inl (omega (arith, before.carried.counted));
    }
