-- One more pair of frames was compared.
use Rattle.std.proofs.Common.{ℕ, ◌≡◌, ◌+◌, ◌<◌, ◌∙◌, Bool, true, ap, arith, refl, subst, sym}
use Rattle.std.proofs.Common.{false, inl, inr}
use Rattle.std.specs.Prelude.{◌⊎◌}
use Rattle.std.proofs.lemmas.Result.{err_from_is_err_and}
use Rattle.v_frame.specs.Prelude.{tables_of, Tables}
use Rattle.v_frame_planar.specs.Planar.{sizes_of}
use Rattle.v_frame_streams.specs.Comparisons.{errors_between, shown, Adds, Pair, WatchesFrames}
use Rattle.v_frame_streams.specs.Errors.{StopsFrame}
use Rattle.v_frame_streams.specs.Pictures.{tables_of_bytes, ReadsTables, Sizes}
use Rattle.v_frame_streams.specs.Sources.{bytes_left, stream_of, unread_of, Stream}
use Rattle.v_frame_streams.specs.Streams.{Framed, ReadsWhole}
use Rattle.v_frame_streams.specs.declared.comparison.Comparison.{Comparison}
use Rattle.v_frame_streams.proofs.Comparing.{none_watched, one_more_watched, watched_all, watched_to_end}
use Rattle.v_frame_streams.proofs.MoreTold.{one_more_told}
use Rattle.v_frame_streams.proofs.Reading.{whole_of_tables}
use Rattle.v_frame_streams.proofs.compare.compare_frames.Goals as goal
use Rattle.v_frame_streams.proofs.compare.compare_frames.Goals.{then-not-more-via-then-not-more, then-not-more-via-else-not-more+then-not-also}

pub loop-count-init : goal.loop-count-init
loop-count-init g c =
    let form = g.T.Pixel.form in
    let size = sizes_of (tables_of c.args.one.now.frame) in
    let left = bytes_left g.R.Read.remaining c.args.first.now in
    let right = bytes_left g.S.Read.remaining c.args.second.now in
    let one = stream_of c.args.first.now in
    let other = stream_of c.args.second.now in
    let new = c.new-found.ensures in
    let takes = g.O.FrameObserver.takes in
    let watcher = c.args.observer.now in
    record {
      watched = subst (λ (found : Comparison). WatchesFrames form size takes watcher watcher one other left left right right
          found) (sym new) (none_watched form size one other takes watcher left right);
      counted = ap (λ (found : Comparison). found.frames) new;
      unended = ap (λ (found : Comparison). found.longer) new;
      same = refl;
      also_same = refl;
      made = c.requires.made;
      also_made = c.requires.also_made;
      sizes = refl;
      also_sizes = c.requires.sizes;
      told = refl;
    }

pub loop-count-preserved : goal.loop-count-preserved
loop-count-preserved g c =
    let before = c.loop-count.invariant in
    let form = g.T.Pixel.form in
    let size = sizes_of (tables_of c.args.one.now.frame) in
    let done = c.in_ok-more.ensures in
    let also = c.in_ok-also.ensures in
    let shows = tables_of c.read.new.self.frame in
    let also_shows = tables_of c.read-in-loop-count.new.self.frame in
    let bytes = c.read.new.self.bytes.items in
    let also_bytes = c.read-in-loop-count.new.self.bytes.items in
    let mid = bytes_left g.R.Read.remaining c.loop-count.first in
    let left = bytes_left g.R.Read.remaining c.read.new.source in
    let far = bytes_left g.S.Read.remaining c.loop-count.second in
    let right = bytes_left g.S.Read.remaining c.read-in-loop-count.new.source in
    let read = subst (λ (more : Bool). ReadsTables form c.loop-count.first.container c.loop-count.first.frame_len c.loop-count.first.layout
    (sizes_of (tables_of c.loop-count.one.frame)) mid left bytes shows more) c.if-not-more.false done.read in
    let sized = subst (λ (s : Sizes). ReadsTables form c.loop-count.first.container c.loop-count.first.frame_len c.loop-count.first.layout s mid
    left bytes shows true) before.sizes read in
    let next = subst (λ (s : Stream). ReadsTables form s.container s.frame_len s.layout size mid left bytes shows true) before.same
    sized in
    let also_read = subst (λ (more : Bool). ReadsTables form c.loop-count.second.container
    c.loop-count.second.frame_len c.loop-count.second.layout (sizes_of (tables_of c.loop-count.other.frame)) far right also_bytes also_shows more)
    c.if-not-also.false also.read in
    let also_sized = subst (λ (s : Sizes). ReadsTables form c.loop-count.second.container c.loop-count.second.frame_len c.loop-count.second.layout
    s far right also_bytes also_shows true) before.also_sizes also_read in
    let also_next = subst (λ (s : Stream). ReadsTables form s.container s.frame_len s.layout size far right also_bytes also_shows true)
    before.also_same also_sized in
    let found = c.loop-count.found in
    let now = c.in_ok-found.found in
    let pair : Pair g.row.T.Denot = (shows, also_shows) in
    let watcher = c.compare_pair.new.observer in
    let added_now = c.in_ok-found.ensures in
    let one_layout = c.args.first.now.layout in
    let other_layout = c.args.second.now.layout in
    let first : Framed = (next.0, bytes) in
    let second : Framed = (also_next.0, also_bytes) in
    let same_pair : pair ≡ shown form size one_layout other_layout (first, second) =
    ap (λ (t : Tables g.row.T.Denot). (t, also_shows)) next.3
    ∙ ap (λ (t : Tables g.row.T.Denot). (tables_of_bytes form one_layout size bytes, t)) also_next.3 in
    let takes = g.O.FrameObserver.takes in
    let told = subst (λ (p : Pair g.row.T.Denot). takes c.loop-count.observer watcher p.0 p.1 (errors_between form p))
    same_pair added_now.taken in
    record {
      watched = one_more_watched form size _ _ _ mid left _ far right found now before.watched.0 takes
          c.args.observer.now c.loop-count.observer watcher before.watched.1 first second next.1 next.2
          also_next.1 also_next.2 (subst (λ (p : Pair g.row.T.Denot). Adds form found now p) same_pair added_now.adds) told;
      counted = added_now.adds.frames ∙ ap (λ (n : ℕ). n + 1) before.counted;
      unended = added_now.longer;
      same = done.same ∙ before.same;
      also_same = also.same ∙ before.also_same;
      made = done.made;
      also_made = also.made;
      sizes = done.sizes ∙ before.sizes;
      also_sizes = also.sizes ∙ before.also_sizes;
      told = one_more_told g.P.Progress.shows _ _ _ _ before.told c.show_one_more.ensures;
    }

pub returns-then-not-more-clause-taken : goal.returns-then-not-more-clause-taken
returns-then-not-more-clause-taken g c =
    let before = c.loop-count.invariant in
    let form = g.T.Pixel.form in
    let size = sizes_of (tables_of c.args.one.now.frame) in
    let one = stream_of c.args.first.now in
    let other = stream_of c.args.second.now in
    let more = c.in_ok-more.more in
    let also = c.in_ok-also.also in
    let mid = bytes_left g.R.Read.remaining c.loop-count.first in
    let left = bytes_left g.R.Read.remaining c.read.new.source in
    let far = bytes_left g.S.Read.remaining c.loop-count.second in
    let right = bytes_left g.S.Read.remaining c.read-in-loop-count.new.source in
    let read = subst (λ (s : Stream). ReadsWhole mid left s.container s.frame_len more) before.same
    (whole_of_tables form _ _ c.loop-count.first.layout (sizes_of (tables_of c.loop-count.one.frame)) mid left
    c.read.new.self.bytes.items (tables_of c.read.new.self.frame) more c.in_ok-more.ensures.read) in
    let also_read = subst (λ (s : Stream). ReadsWhole far right s.container s.frame_len also) before.also_same
    (whole_of_tables form _ _ c.loop-count.second.layout (sizes_of (tables_of c.loop-count.other.frame)) far right
    c.read-in-loop-count.new.self.bytes.items (tables_of c.read-in-loop-count.new.self.frame) also c.in_ok-also.ensures.read) in
    let shorter : (more ≡ false) ⊎ (also ≡ false) = elim c.then-not-more.branch [
      | then-not-more-via-then-not-more w ↦ inl w.if-not-more.true
      | then-not-more-via-else-not-more+then-not-also w ↦ inr w.if-not-also.true
    ] in
    let fewer : c.loop-count.found.frames < c.args.most =
    omega (arith, before.counted, c.loop-count-test.true) in
    watched_to_end form size one other _ mid left _ far right c.loop-count.found c.loop-count.found before.watched.0
    g.O.FrameObserver.takes c.args.observer.now c.loop-count.observer before.watched.1 c.args.most fewer
    c.longer_of-longer.result more also read also_read c.longer_of-longer.ensures shorter

pub returns-then-not-more-clause-compared : goal.returns-then-not-more-clause-compared
returns-then-not-more-clause-compared g c = (returns-then-not-more-clause-taken g c).0

pub returns-clause-taken : goal.returns-clause-taken
returns-clause-taken g c =
    let before = c.loop-count.invariant in
    let whole : c.loop-count.found.frames ≡ c.args.most =
    before.counted ∙ omega (arith, c.loop-count-test.false, c.loop-count.auto.count-end) in
    watched_all g.T.Pixel.form (sizes_of (tables_of c.args.one.now.frame)) (stream_of c.args.first.now)
    (stream_of c.args.second.now) g.O.FrameObserver.takes c.args.observer.now c.loop-count.observer _ _ _ _ c.args.most
    c.loop-count.found before.watched whole before.unended

pub returns-clause-compared : goal.returns-clause-compared
returns-clause-compared g c = (returns-clause-taken g c).0

-- A frame of the first stream could not be read.
pub returns-in_err-more-clause-problem : goal.returns-in_err-more-clause-problem
returns-in_err-more-clause-problem g c =
    let mid = unread_of g.R.Read.remaining c.loop-count.first in
    let left = unread_of g.R.Read.remaining c.read.new.source in
    let problem = c.in_err-more.field-0.0.problem in
    let stops = subst (λ (s : Stream). StopsFrame s.container mid left s.frame_len problem)
    (sym c.in_err-more.ensures.same) c.in_err-more.ensures.problem in
    let p = err_from_is_err_and c.from_residual.result c.from_residual.ensures.1 in
    rw (p.1, p.2) (inl (inl (mid, stops)))

-- A frame of the second stream could not be read.
pub returns-in_err-also-clause-problem : goal.returns-in_err-also-clause-problem
returns-in_err-also-clause-problem g c =
    let mid = unread_of g.S.Read.remaining c.loop-count.second in
    let left = unread_of g.S.Read.remaining c.read-in-loop-count.new.source in
    let problem = c.in_err-also.field-0.0.problem in
    let stops = subst (λ (s : Stream). StopsFrame s.container mid left s.frame_len problem)
    (sym c.in_err-also.ensures.same) c.in_err-also.ensures.problem in
    let p = err_from_is_err_and c.from_residual-in_err-also.result c.from_residual-in_err-also.ensures.1 in
    rw (p.1, p.2) (inl (inr (mid, stops)))
