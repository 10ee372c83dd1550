-- The same number of frames precedes both frames, and their difference is drawn with the requested
-- gain.
use Rattle.std.proofs.Common.{ℕ, ◌*◌, ◌≤◌, subst}
use Rattle.v_frame.specs.Prelude.{tables_of}
use Rattle.yuv_comparisons.specs.Differences.{DrawsDifference}
use Rattle.yuv_comparisons.proofs.diff.draw_frames.Goals as goal

pub returns : goal.returns
returns g c =
    let contents = g.W.Write.contents in
    let header = c.args.first.now.header in
    let one = tables_of c.read_behind.new.picture.frame in
    let other = tables_of c.read_behind-2.new.picture.frame in
    let done = c.in_ok-drawn.drawn in
    record {
      before = c.args.before;
      number = c.requires.number;
      small = subst (λ (most : ℕ). header.width * header.height ≤ most) c.most_pixels-most.ensures c.in_ok-one.ensures.small;
      pair = (one, other);
      first = c.in_ok-read_behind.ensures.read;
      second = c.in_ok-read_behind-2.ensures.read;
      drawn = subst (λ (gain : ℕ). DrawsDifference g.T.Pixel.form contents (contents c.args.out) gain one other done.0 done.1)
          c.gain_of.ensures c.in_ok-drawn.ensures;
    }
