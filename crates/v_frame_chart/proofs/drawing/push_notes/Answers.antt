-- The notes follow one another.
use Rattle.v_frame_chart.specs.Charts.{notes_text}
use Rattle.v_frame_chart.proofs.Appended.{joined}
use Rattle.v_frame_chart.proofs.drawing.push_notes.Goals as goal

pub returns : goal.returns
unfolding notes_text
returns c = joined _ _ _ _ _ (c.in_ok-push_endless_note.ensures {u = tt}) (c.in_ok-push_band_note.ensures {u = tt})
