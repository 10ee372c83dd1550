-- The chart has the axes that were chosen.
use Rattle.std.proofs.Common.{rules}
use Rattle.v_frame_chart.proofs.drawing.svg.Goals as goal

pub returns : goal.returns
returns c = record {
  scale = c.scale_of-scale.result;
  step = c.frame_step-step.result;
  room = c.scale_of-scale.ensures;
  steps = rw (c.span_of.ensures.value) at c.frame_step-step.ensures.step;
  drawn = search rules;
}
