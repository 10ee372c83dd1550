-- No values yet.
use Rattle.std.proofs.Common.{refl, ap, ◌∙◌, rules}
use Rattle.std.specs.Float.Ieee.{neg}
use Rattle.v_frame_chart.proofs.Floats.{neg-inf, zero}
use Rattle.v_frame_chart.proofs.columns.summarized.Goals as goal

pub loop-value-init : goal.loop-value-init
loop-value-init c = record {
  least = c.infinity-least.ensures;
  most = ap neg c.infinity.ensures ∙ neg-inf;
  sum = zero;
  count = refl;
  few = search rules;
}
