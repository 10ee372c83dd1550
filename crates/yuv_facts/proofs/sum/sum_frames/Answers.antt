-- One more frame is read, and its line is written.
use Rattle.std.proofs.Common.{◌≡◌, ◌∙◌, arith, Bool, List, true, ap, refl, subst, ℕ}
use Rattle.std.specs.Io.KnownBytes.{Appends}
use Rattle.v_frame.specs.Prelude.{tables_of}
use Rattle.v_frame_planar.specs.Planar.{sizes_of}
use Rattle.yuv_facts.proofs.Summing.{none_summed, one_more_summed, summed_to_end}
use Rattle.yuv_facts.specs.Checksums.{checksums_of}
use Rattle.yuv_reports.specs.Samples.{checksums_line}
use Rattle.v_frame_streams.specs.Pictures.{ReadsTables, Sizes}
use Rattle.v_frame_streams.specs.Sources.{bytes_left, Stream}
use Rattle.yuv_facts.proofs.sum.sum_frames.Goals as goal

pub loop-count-init : goal.loop-count-init
loop-count-init g c = record {
  made = c.requires;
  sized = refl;
  same = refl;
  summed = none_summed _ _ _ _ _ _ _ _;
}

pub returns-then-not-branch : goal.returns-then-not-branch
returns-then-not-branch g c =
    let before = c.loop-count.invariant in
    let source = c.loop-count.source in
    let mid = bytes_left g.R.Read.remaining source in
    let left = bytes_left g.R.Read.remaining c.read.new.source in
    let read = subst (λ (more : Bool). ReadsTables g.T.Pixel.form source.container source.frame_len source.layout
    (sizes_of (tables_of c.loop-count.picture.frame)) mid left c.read.new.self.bytes.items
    (tables_of c.read.new.self.frame) more) c.if-not-branch.true c.in_ok-read.ensures.read in
    summed_to_end _ _ _ _ _ _ _ mid left _ _ _ before.summed c.args.most read.0 read.1 (omega arith)

pub loop-count-preserved : goal.loop-count-preserved
loop-count-preserved g c =
    let before = c.loop-count.invariant in
    let source = c.loop-count.source in
    let size = g.T.Pixel.form.size in
    let planes = c.args.lines.planes in
    let number = c.number_of-number.result in
    let now = g.W.Write.contents c.loop-count.out in
    let has = g.W.Write.contents c.write_sums.new.out in
    let mid = bytes_left g.R.Read.remaining source in
    let left = bytes_left g.R.Read.remaining c.read.new.source in
    let whole = subst (λ (more : Bool). ReadsTables g.T.Pixel.form source.container source.frame_len source.layout
    (sizes_of (tables_of c.loop-count.picture.frame)) mid left c.read.new.self.bytes.items
    (tables_of c.read.new.self.frame) more) c.if-not-branch.false c.in_ok-read.ensures.read in
    let read = subst (λ (s : Stream). ReadsTables g.T.Pixel.form s.container s.frame_len s.layout
    (sizes_of (tables_of c.loop-count.picture.frame)) mid left c.read.new.self.bytes.items
    (tables_of c.read.new.self.frame) true) before.same whole in
    let sized : sizes_of (tables_of c.read.new.self.frame) ≡ sizes_of (tables_of c.args.picture.now.frame) =
    c.in_ok-read.ensures.sizes ∙ before.sized in
    let shown : sizes_of (tables_of c.frame-frame.result.now) ≡ sizes_of (tables_of c.args.picture.now.frame) =
    ap (λ f. sizes_of (tables_of f)) c.frame-frame.ensures.value ∙ sized in
    let of_sizes = subst (λ (s : Sizes). Appends now has
    (checksums_line number (checksums_of planes size s c.bytes-bytes.result.now))) shown c.in_ok-write_sums.ensures in
    let appended = subst (λ (b : List ℕ). Appends now has
    (checksums_line number (checksums_of planes size (sizes_of (tables_of c.args.picture.now.frame)) b))) c.bytes-bytes.ensures of_sizes in
    let numbered = subst (λ (n : ℕ). Appends now has
    (checksums_line n (checksums_of planes size (sizes_of (tables_of c.args.picture.now.frame)) c.read.new.self.bytes.items)))
    c.number_of-number.ensures appended in
    record {
      made = c.in_ok-read.ensures.made;
      sized = sized;
      same = c.in_ok-read.ensures.same ∙ before.same;
      summed = one_more_summed _ _ _ _ _ _ _ mid left _ now _ before.summed has (read.0, c.read.new.self.bytes.items)
          read.1 read.2 numbered;
    }
