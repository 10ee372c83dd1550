-- One more series.
use Rattle.std.proofs.Common.{arith, ap, ◌∙◌, sym, get_or, true, false}
use Rattle.std.specs.List.{fold}
use Rattle.std.specs.Float.Ieee.{Float, inf}
use Rattle.v_frame_chart.specs.Columns.{finite, greater, lesser}
use Rattle.v_frame_chart.specs.Room.{least_of, most_of}
use Rattle.v_frame_chart.proofs.Extents.{gathered_more}
use Rattle.v_frame_chart.proofs.Appended.{no_series}
use Rattle.v_frame_chart.proofs.room.extent.Goals as goal

pub loop-one-init : goal.loop-one-init
unfolding least_of most_of
loop-one-init c = record { least = c.infinity-low.ensures; most = c.minus_infinity-high.ensures }

pub loop-one-preserved : goal.loop-one-preserved
unfolding least_of most_of
loop-one-preserved c =
    let series = c.args.series.now in let k = c.loop-one.one-index in
    let one = finite (get_or series k no_series).values.now in
    record {
      least = c.extended.ensures.least ∙ ap (λ (low : Float). fold lesser low one) c.loop-one.invariant.least
          ∙ sym (gathered_more lesser (inf false) series k (omega arith));
      most = c.extended.ensures.most ∙ ap (λ (high : Float). fold greater high one) c.loop-one.invariant.most
          ∙ sym (gathered_more greater (inf true) series k (omega arith));
    }
