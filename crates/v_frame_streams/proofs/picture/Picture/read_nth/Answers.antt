-- The skipped frames, and the frame after them.
use Rattle.std.proofs.Common.{ℕ, ◌≡◌, ◌+◌, Bool, true, false, List, Option, Result, Ok, Err, arith, refl, subst}
use Rattle.std.specs.Prelude.{min, IfErr, IfOk}
use Rattle.v_frame.specs.Prelude.{tables_of, PixelForm, Tables}
use Rattle.v_frame_planar.specs.Planar.{sizes_of}
use Rattle.v_frame_streams.specs.Errors.{StopsAtFrame, StopsFrame}
use Rattle.v_frame_streams.specs.Nth.{ReadsNth}
use Rattle.v_frame_streams.specs.Pictures.{sizes_in, ReadsTables, Sizes}
use Rattle.v_frame_streams.specs.Sources.{bytes_left, stream_of, unread_of, Stream}
use Rattle.v_frame_streams.specs.Streams.{frames_after, most_frames, CountsFrames, Framed}
use Rattle.v_frame_streams.specs.declared.error.StreamError.{StreamError}
use Rattle.v_frame_streams.proofs.Reading.{no_more_read, one_more_read}
use Rattle.v_frame_streams.proofs.picture.Picture.read_nth.Goals as goal

-- After the skipped frames, one more frame was read, or none.
nth_of_next : {T : Type 0} (form : PixelForm T) (stream : Stream) (left mid left' : Option (List ℕ)) (n begun now after : ℕ)
    → CountsFrames left mid stream.container stream.frame_len n n → now ≡ min (begun + n) most_frames → (bytes : List ℕ)
    (tables : Tables T) (more : Bool)
    → ReadsTables form stream.container stream.frame_len stream.layout (sizes_in stream.header) mid left' bytes tables more
    → after ≡ frames_after now more → ReadsNth form n stream left left' tables bytes begun after more
nth_of_next form stream left mid left' n begun now after before reached bytes tables true read counted =
    let frame : Framed = (read.0, bytes) in (
      record {
        frames = before.frames;
        frame = frame;
        passed = before.counted;
        read = one_more_read stream.container stream.frame_len left mid left' before.frames before.read frame read.1 read.2;
        shows = read.3;
      },
      refl,
      omega (arith, reached, counted),
    )
nth_of_next form stream left mid left' n begun now after before reached bytes tables false read counted = record {
  frames = before.frames;
  read = no_more_read stream.container stream.frame_len left mid left' before.frames before.read read.0;
  bound = omega (arith, before.counted);
  ends = read.1;
  counted = omega (arith, reached, counted, before.counted);
}

if_ok_both : {A E : Type 0} (result : Result A E) (P Q S : A → Type 0) → ((x : A) → P x → Q x → S x) → IfOk result P
    → IfOk result Q → IfOk result S
if_ok_both (Ok x) P Q S also p q = also x p q
if_ok_both (Err e) P Q S also p q = tt

if_err_both : {A E : Type 0} (result : Result A E) (P Q S : E → Type 0) → ((e : E) → P e → Q e → S e) → IfErr result P
    → IfErr result Q → IfErr result S
if_err_both (Ok done) P Q S also p q = tt
if_err_both (Err e) P Q S also p q = also e p q

pub returns-clause-read : goal.returns-clause-read
returns-clause-read g c =
    let form = g.T.Pixel.form in
    let source = c.args.source.now in
    let stream = stream_of source in
    let from = c.skip_frames.new.source in
    let left = bytes_left g.R.Read.remaining source in
    let mid = bytes_left g.R.Read.remaining from in
    let end = bytes_left g.R.Read.remaining c.read.new.source in
    let bytes = c.read.new.self.bytes.items in
    let shows = tables_of c.read.new.self.frame in
    let after = c.read.new.source.frames in
    let passed = c.in_ok-passed.ensures.counted in
    let all : c.in_ok-passed.passed ≡ c.args.before = omega (arith, c.if-passed-before.false, passed.bound) in
    let counted = subst (λ (n : ℕ). CountsFrames left mid source.container source.frame_len c.args.before n) all passed in
    let reached : from.frames ≡ min (source.frames + c.args.before) most_frames = omega
    (arith, c.in_ok-passed.ensures.frames, all) in
    if_ok_both c.read.result
    (ReadsTables form from.container from.frame_len from.layout (sizes_of (tables_of c.args.self.now.frame)) mid end bytes shows)
    (λ more. after ≡ frames_after from.frames more)
    (ReadsNth form c.args.before stream left end shows bytes source.frames after)
    (λ more read.
    let sized = subst (λ (s : Sizes). ReadsTables form from.container from.frame_len from.layout s mid end bytes shows more)
    c.requires.sizes read in
    nth_of_next form stream left mid end c.args.before source.frames from.frames after counted reached bytes shows more
    (subst (λ (s : Stream). ReadsTables form s.container s.frame_len s.layout (sizes_in source.header) mid end bytes shows
    more) c.in_ok-passed.ensures.same sized))
    c.read.ensures.read c.read.ensures.frames

pub returns-clause-problem : goal.returns-clause-problem
returns-clause-problem g c =
    let source = c.args.source.now in
    let from = c.skip_frames.new.source in
    let start = unread_of g.R.Read.remaining source in
    let mid = unread_of g.R.Read.remaining from in
    let left = unread_of g.R.Read.remaining c.read.new.source in
    let passed = c.in_ok-passed.ensures.counted in
    let all : c.in_ok-passed.passed ≡ c.args.before = omega (arith, c.if-passed-before.false, passed.bound) in
    if_err_both c.read.result (λ (e : StreamError). StopsFrame from.container mid left from.frame_len e.problem)
    (λ (e : StreamError). c.read.new.source.frames ≡ from.frames)
    (λ (e : StreamError). StopsAtFrame source.container source.frame_len start left (c.args.before + 1) source.frames
    c.read.new.source.frames e.problem)
    (λ e stops uncounted. record {
      frames = passed.frames;
      mid = mid;
      read = passed.read;
      unfailed = c.in_ok-passed.ensures.unfailed;
      fewer = omega (arith, passed.counted, all);
      counted = omega (arith, uncounted, c.in_ok-passed.ensures.frames, passed.counted);
      stops = subst (λ (s : Stream). StopsFrame s.container mid left s.frame_len e.problem) c.in_ok-passed.ensures.same stops;
    }) c.read.ensures.problem c.read.ensures.uncounted
