-- A chart, and a chart of which nothing was written.
use Rattle.std.proofs.Common.{ℕ, ◌≡◌, ◌<◌, List, length, Option, OnErr, Result, refl, arith, Ok, Err}
use Rattle.std.proofs.KnownBytes.{Appends-nil}
use Rattle.v_frame_chart.specs.Charts.{chart_text, span_of, AppendsPartOfChart, IsChart}
use Rattle.v_frame_chart.specs.Frames.{IsFrameStep}
use Rattle.v_frame_chart.specs.Room.{HasRoom}
use Rattle.v_frame_chart.specs.Words.{head_text, opening}
use Rattle.v_frame_chart.specs.declared.drawing.Chart.{Chart}
use Rattle.v_frame_chart.specs.declared.scale.Scale.{Scale}

pub charted : (chart : Chart) (scale : Scale) (step : ℕ) (text : List ℕ) → HasRoom scale chart.series.now
    → IsFrameStep (span_of chart.series.now) step → text ≡ chart_text chart scale step → IsChart chart text
charted chart scale step text room steps drawn =
    record { scale = scale; step = step; room = room; steps = steps; drawn = drawn }

-- A chart has at least one byte.
pub some_bytes : (chart : Chart) (scale : Scale) (step : ℕ) → 0 < length (chart_text chart scale step)
unfolding chart_text head_text opening
some_bytes chart scale step = omega arith

-- No byte of the chart was written.
pub none_written : (chart : Chart) (scale : Scale) (step : ℕ) (old : Option (List ℕ)) → HasRoom scale chart.series.now
    → IsFrameStep (span_of chart.series.now) step → AppendsPartOfChart old old chart
none_written chart scale step old room steps =
    let text = chart_text chart scale step in
    (text, charted chart scale step text room steps refl, (0, some_bytes chart scale step, Appends-nil old))

pub on_err_of : {T E P : Type 0} (r : Result T E) → P → OnErr r P
on_err_of (Ok x) p = tt
on_err_of (Err e) p = p
