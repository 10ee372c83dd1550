-- The values of one more frame are counted.
use Rattle.std.proofs.Common.{◌∙◌, ◌^◌, Bool, true, ap, arith, refl, subst}
use Rattle.v_frame.specs.Prelude.{tables_of, Tables}
use Rattle.v_frame_planar.specs.Planar.{sizes_of}
use Rattle.yuv_facts.proofs.Counting.{counted_to_end, done_of, none_counted, one_more_counted}
use Rattle.yuv_facts.specs.Values.{CountsFrame}
use Rattle.v_frame_streams.specs.Pictures.{ReadsTables, Sizes}
use Rattle.v_frame_streams.specs.Sources.{bytes_left, Stream}
use Rattle.yuv_facts.proofs.stats.count_frames.Goals as goal

pub loop-count-init : goal.loop-count-init
loop-count-init g c = record {
  made = c.requires.made;
  sized = refl;
  same = refl;
  counted = none_counted _ _ _ _ _ _ _ c.args.counts.now _ c.requires.nothing refl;
}

pub returns-then-not-branch : goal.returns-then-not-branch
returns-then-not-branch g c =
    let before = c.loop-count.invariant in
    let source = c.loop-count.source in
    let mid = bytes_left g.R.Read.remaining source in
    let left = bytes_left g.R.Read.remaining c.read.new.source in
    let read = subst (λ (more : Bool). ReadsTables g.T.Pixel.form source.container source.frame_len source.layout
    (sizes_of (tables_of c.loop-count.picture.frame)) mid left c.read.new.self.bytes.items
    (tables_of c.read.new.self.frame) more) c.if-not-branch.true c.in_ok-read.ensures.read in
    counted_to_end _ _ _ _ _ _ _ mid left _ _ before.counted c.args.most read.0 read.1 (omega arith)

pub loop-count-preserved : goal.loop-count-preserved
loop-count-preserved g c =
    let before = c.loop-count.invariant in
    let source = c.loop-count.source in
    let form = g.T.Pixel.form in
    let bound = 256 ^ g.T.Pixel.BYTES in
    let mid = bytes_left g.R.Read.remaining source in
    let left = bytes_left g.R.Read.remaining c.read.new.source in
    let bytes = c.read.new.self.bytes.items in
    let whole = subst (λ (more : Bool). ReadsTables form source.container source.frame_len source.layout
    (sizes_of (tables_of c.loop-count.picture.frame)) mid left bytes (tables_of c.read.new.self.frame) more)
    c.if-not-branch.false c.in_ok-read.ensures.read in
    let of_stream = subst (λ (s : Stream). ReadsTables form s.container s.frame_len s.layout
    (sizes_of (tables_of c.loop-count.picture.frame)) mid left bytes (tables_of c.read.new.self.frame) true)
    before.same whole in
    let read = subst (λ (s : Sizes). ReadsTables form c.args.source.now.container c.args.source.now.frame_len
    c.args.source.now.layout s mid left bytes (tables_of c.read.new.self.frame) true) before.sized of_stream in
    let added : CountsFrame form bound (tables_of c.frame.result.now) c.loop-count.counts c.add.new.self =
    done_of c.add.result _ c.add.ensures c.if-is_err.ensures.value in
    let counted = subst (λ (t : Tables g.row.T.Denot). CountsFrame form bound t c.loop-count.counts c.add.new.self)
    (ap (λ f. tables_of f) c.frame.ensures.value ∙ read.3) added in
    record {
      made = c.in_ok-read.ensures.made;
      sized = c.in_ok-read.ensures.sizes ∙ before.sized;
      same = c.in_ok-read.ensures.same ∙ before.same;
      counted = one_more_counted _ _ _ _ _ _ _ mid left _ _ before.counted c.add.new.self (read.0, bytes) read.1 read.2
          counted;
    }
