-- The text of a chart.
use Rattle.std.specs.Prelude.{ℕ, ◌-◌, ◌≡◌, ◌++◌, ◌||◌, [], nat_lt, if◌then◌else◌, Bool, false, codes, List, fold, flat_map, length, max, min, Option}
use Rattle.std.specs.List.{enumerate_from}
use Rattle.std.specs.Io.KnownBytes.{Appends}
use Rattle.v_frame_chart.specs.Columns.{columns_of}
use Rattle.v_frame_chart.specs.Endless.{endless_text, has_endless}
use Rattle.v_frame_chart.specs.Frames.{across_of, frames_text, IsFrameStep}
use Rattle.v_frame_chart.specs.Lines.{drawn_text}
use Rattle.v_frame_chart.specs.Marks.{marks_of}
use Rattle.v_frame_chart.specs.Room.{HasRoom}
use Rattle.v_frame_chart.specs.Scales.{down_of, grid_text}
use Rattle.v_frame_bytes.specs.Sending.{AppendsBeginning}
use Rattle.v_frame_chart.specs.Words.{closing, color_of, head_text, legend_of, text_of}
use Rattle.v_frame_chart.specs.declared.drawing.Chart.{Chart}
use Rattle.v_frame_chart.specs.declared.drawing.Series.{Series}
use Rattle.v_frame_chart.specs.declared.scale.Scale.{Scale}

-- The number of columns of pixels between the left and the right side.
abbrev pub room : ℕ
room = 848

-- The number of frames of the longest series.
unfoldable pub frames_of : List Series → ℕ
frames_of series = fold (λ frames one. max (length one.values.now) frames) 0 series

-- The number of frames on the axis after the first one, or 1 if there are fewer.
unfoldable pub span_of : List Series → ℕ
span_of series = max (frames_of series - 1) 1

-- A series in its color: marks at the top, and a mark for each column, with a band if columns have
-- several values.
unfoldable pub series_text : Scale → ℕ → ℕ × Series → List ℕ
series_text scale span (k, series) =
    let values = series.values.now in
    endless_text (across_of span) values (min (length values) room) k
    ++ drawn_text (marks_of (across_of span) (down_of scale) (length values) (columns_of values room))
    (nat_lt room (length values)) (color_of k)

-- The series in their order.
unfoldable pub all_series : Scale → ℕ → List Series → List ℕ
all_series scale span series =
    flat_map (series_text scale span) (enumerate_from 0 series)

-- Whether one of the series has an infinite value.
abbrev pub has_endless_series : List Series → Bool
has_endless_series series = fold (λ found one. found || has_endless one.values.now) false series

-- The note if it applies, and an empty text otherwise.
abbrev pub note_text : Bool → List ℕ → List ℕ → List ℕ
note_text applies place note = if applies then text_of place note else []

-- The note on the marks at the top.
unfoldable pub endless_note : List Series → List ℕ
endless_note series =
    note_text (has_endless_series series) (codes "x=\"924\" y=\"16\" text-anchor=\"end\"")
    (codes "marks at the top: infinite, as of identical frames")

-- The note on the bands.
unfoldable pub band_note : List Series → List ℕ
band_note series =
    note_text (nat_lt room (frames_of series)) (codes "x=\"924\" y=\"33\" text-anchor=\"end\"")
    (codes "line: mean; band: minimum to maximum")

-- Both notes.
unfoldable pub notes_text : List Series → List ℕ
notes_text series = endless_note series ++ band_note series

-- The picture with these axes.
unfoldable pub chart_text : Chart → Scale → ℕ → List ℕ
chart_text chart scale step =
    let series = chart.series.now in
    let span = span_of series in
    head_text chart.title.now chart.unit.now
    ++ (grid_text scale ++ (frames_text chart.first span (frames_of series - 1) step
    ++ (all_series scale span series ++ (legend_of series ++ (notes_text series ++ closing)))))

-- The text is the picture of a chart, with axes that contain its values.
pub record IsChart (chart : Chart) (text : List ℕ) : Type 0 where
  pub scale : Scale
  pub step : ℕ
  pub room : HasRoom scale chart.series.now
  pub steps : IsFrameStep (span_of chart.series.now) step
  pub drawn : text ≡ chart_text chart scale step

-- The picture of a chart was appended: the complete picture, or only a beginning of it. Nothing is
-- stated if the bytes of the writer are unknown.
abbrev pub AppendsChart : Option (List ℕ) → Option (List ℕ) → Chart → Type 0
AppendsChart old new chart = (text : List ℕ) × IsChart chart text × Appends old new text

abbrev pub AppendsPartOfChart : Option (List ℕ) → Option (List ℕ) → Chart → Type 0
AppendsPartOfChart old new chart =
    (text : List ℕ) × IsChart chart text × AppendsBeginning old new text
