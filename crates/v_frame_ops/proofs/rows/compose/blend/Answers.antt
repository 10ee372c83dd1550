-- The closure computes the blend.
use Rattle.v_frame_ops.specs.Compose.{blended}
use Rattle.v_frame_ops.proofs.rows.compose.blend.Goals as goal

pub returns-clause-table : goal.returns-clause-table
returns-clause-table g c =
    c.combine_pixels.ensures.combined (blended g.T.Pixel.form 256 c.args.weight) (λ p q r is. is)
