-- The skipped frames precede the frames with checksums.
use Rattle.std.proofs.Common.{ℕ, ◌≡◌, rules, subst}
use Rattle.std.specs.Prelude.{unwrap_or}
use Rattle.yuv_facts.specs.Checksums.{SumsFrames}
use Rattle.v_frame_streams.specs.Pictures.{sizes_in, Sizes}
use Rattle.v_frame_streams.specs.Prelude.{most_frames, CountsFrames}
use Rattle.v_frame_streams.specs.Sources.{bytes_left, Stream}
use Rattle.yuv_facts.proofs.sum.sum_as.Goals as goal

pub returns : goal.returns
returns g c =
    let size = g.T.Pixel.form.size in
    let options = c.args.options.now in
    let source = c.args.source.now in
    let begin = bytes_left g.R.Read.remaining source in
    let start = bytes_left g.R.Read.remaining c.skip_frames.new.source in
    let left = bytes_left g.R.Read.remaining c.sum_frames.new.source in
    let has = g.W.Write.contents c.args.out.now in
    let has' = g.W.Write.contents c.sum_frames.new.out in
    let found = c.in_ok-sum_frames.field-0 in
    let before = c.unwrap_or-skip.result in
    let most = c.unwrap_or-most.result in
    let sizes = sizes_in source.header in
    let skip : before ≡ unwrap_or options.skip 0 = search rules in
    let limit : most ≡ unwrap_or options.count most_frames = search rules in
    let by_size = subst (λ (s : Sizes). SumsFrames c.skip_frames.new.source.container c.skip_frames.new.source.frame_len
    start left has has' options.planes size s before most found) c.in_ok-picture.ensures.sizes
    c.in_ok-sum_frames.ensures in
    let by_stream = subst (λ (s : Stream). SumsFrames s.container s.frame_len start left has has' options.planes size
    sizes before most found) c.in_ok-skip_frames.ensures.same by_size in
    let by_most = subst (λ (n : ℕ). SumsFrames source.container source.frame_len start left has has' options.planes
    size sizes before n found) limit by_stream in
    record {
      start = start;
      passed = c.in_ok-skip_frames.field-0;
      skipped = subst (λ (n : ℕ). CountsFrames begin start source.container source.frame_len n
          c.in_ok-skip_frames.field-0) skip c.in_ok-skip_frames.ensures.counted;
      summed = subst (λ (n : ℕ). SumsFrames source.container source.frame_len start left has has' options.planes
          size sizes n (unwrap_or options.count most_frames) found) skip by_most;
    }
