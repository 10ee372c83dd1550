-- The text was created from the counts, and written.
use Rattle.std.proofs.Common.{◌∙◌, ◌^◌, ℕ, ap, string_bytes, subst}
use Rattle.std.proofs.lemmas.Result.{IfOk-weaker}
use Rattle.v_frame_rgb.specs.declared.standard.ColorRange.{ColorRange}
use Rattle.v_frame_streams.specs.Pictures.{sizes_in}
use Rattle.v_frame_streams.specs.Sources.{bytes_left}
use Rattle.v_frame_y4m.specs.Color.{depth_of}
use Rattle.v_frame_y4m.specs.declared.header.StreamHeader.{StreamHeader}
use Rattle.yuv_facts.specs.Statistics.{ReportsValues, SaysCounts}
use Rattle.yuv_facts.specs.Values.{CountsFrom}
use Rattle.yuv_facts.proofs.Counting.{made_and_written}
use Rattle.yuv_system.specs.Headers.{used_range}
use Rattle.yuv_facts.proofs.stats.report_pixels.Goals as goal

pub returns : goal.returns
returns g c =
    let form = g.T.Pixel.form in
    let bound = 256 ^ g.T.Pixel.BYTES in
    let contents = g.W.Write.contents in
    let options = c.args.options.now in
    let source = c.args.source.now in
    let counts = c.in_ok-counts.counts in
    let left = bytes_left g.R.Read.remaining source in
    let rest = bytes_left g.R.Read.remaining c.count_values.new.source in
    let depth = c.bit_depth-depth.ensures ∙ ap (λ (h : StreamHeader). depth_of h.color) c.header.ensures in
    let range = c.used_range-range.ensures ∙ ap (λ (h : StreamHeader). used_range options.range h) c.header-2.ensures in
    let both = made_and_written c.report_text-text.result _ _ c.in_ok-write_made.ensures.made c.report_text-text.ensures in
    let by_depth = subst (λ (d : ℕ). SaysCounts options.histogram c.used_range-range.result d counts (string_bytes both.0))
    depth both.2 in
    let says = subst (λ (r : ColorRange). SaysCounts options.histogram r (depth_of source.header.color) counts (string_bytes both.0))
    range by_depth in
    IfOk-weaker c.in_ok-counts.counted
    (λ found. CountsFrom form bound source.container source.frame_len source.layout (sizes_in source.header) left rest options
    found counts)
    (ReportsValues form bound source.container source.frame_len source.layout (sizes_in source.header) left rest
    (contents c.args.out.now) (contents c.write_made.new.out) options (used_range options.range source.header)
    (depth_of source.header.color))
    (λ found counted. record {
      found = counts;
      counted = counted;
      text = string_bytes both.0;
      says = says;
      written = both.1;
    }) c.in_ok-counts.ensures
