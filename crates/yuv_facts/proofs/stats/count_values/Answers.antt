-- The skipped frames precede the frames that are counted.
use Rattle.std.proofs.Common.{ℕ, ◌≡◌, ◌^◌, rules, subst}
use Rattle.std.proofs.lemmas.Result.{IfOk-weaker}
use Rattle.std.specs.Prelude.{unwrap_or, IfOk}
use Rattle.yuv_facts.specs.Values.{CountsFrom, CountsStream}
use Rattle.v_frame_streams.specs.Pictures.{sizes_in, Sizes}
use Rattle.v_frame_streams.specs.Prelude.{most_frames, CountsFrames}
use Rattle.v_frame_streams.specs.Sources.{bytes_left, Stream}
use Rattle.yuv_facts.proofs.stats.count_values.Goals as goal

pub returns : goal.returns
returns g c =
    let form = g.T.Pixel.form in
    let bound = 256 ^ g.T.Pixel.BYTES in
    let options = c.args.options.now in
    let source = c.args.source.now in
    let begin = bytes_left g.R.Read.remaining source in
    let start = bytes_left g.R.Read.remaining c.skip_frames.new.source in
    let left = bytes_left g.R.Read.remaining c.count_frames-counted.new.source in
    let counts = c.count_frames-counted.new.counts in
    let before = c.unwrap_or.result in
    let most = c.unwrap_or-most.result in
    let sizes = sizes_in source.header in
    let skip : before ≡ unwrap_or options.skip 0 = search rules in
    let limit : most ≡ unwrap_or options.count most_frames = search rules in
    let counted = c.count_frames-counted.result in
    let by_size = subst (λ (s : Sizes). IfOk counted (λ found. CountsStream form bound c.skip_frames.new.source.container
    c.skip_frames.new.source.frame_len c.skip_frames.new.source.layout s start left most found counts))
    c.in_ok-picture.ensures.sizes c.count_frames-counted.ensures in
    let by_stream = subst (λ (s : Stream). IfOk counted (λ found. CountsStream form bound s.container s.frame_len s.layout sizes
    start left most found counts)) c.in_ok-skip_frames.ensures.same by_size in
    IfOk-weaker counted
    (λ found. CountsStream form bound source.container source.frame_len source.layout sizes start left most found counts)
    (λ found. CountsFrom form bound source.container source.frame_len source.layout sizes begin left options found counts)
    (λ found stream. record {
      start = start;
      passed = c.in_ok-skip_frames.field-0;
      skipped = subst (λ (n : ℕ). CountsFrames begin start source.container source.frame_len n
          c.in_ok-skip_frames.field-0) skip c.in_ok-skip_frames.ensures.counted;
      counted = subst (λ (n : ℕ). CountsStream form bound source.container source.frame_len source.layout sizes start
          left n found counts) limit stream;
    }) by_stream
