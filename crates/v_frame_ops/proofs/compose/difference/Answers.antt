-- The closure computes the amplified difference with the largest value of the depth.
use Rattle.v_frame_ops.specs.Compose.{difference_of}
use Rattle.v_frame_ops.proofs.compose.difference.Goals as goal

pub returns-clause-table : goal.returns-clause-table
returns-clause-table g c =
    c.combine_pixels.ensures.combined (difference_of g.T.Pixel.form c.args.gain c.args.depth)
    (λ p q r is. rw (c.largest_value-largest.ensures.value) at is)
