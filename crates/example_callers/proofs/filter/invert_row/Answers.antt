-- One more pixel is inverted.
use Rattle.std.proofs.Common.{◌-◌, arith}
use Rattle.std.proofs.lemmas.Grind.{common_steps}
use Rattle.std.proofs.lemmas.List.Edits.{map_over_more}
use Rattle.example_callers.proofs.filter.invert_row.Goals as goal

pub loop-pixel-preserved : goal.loop-pixel-preserved
loop-pixel-preserved c = grind (
  arith,
  common_steps,
  map_over_more (λ p. 255 - p) c.args.row.now c.loop-pixel.row
      c.loop-pixel.pixel-index,
)
