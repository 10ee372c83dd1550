-- The values are moved out of the entries.
use Rattle.std.proofs.Common.{◌∙◌}
use Rattle.v_frame_buffer.proofs.aligned.AlignedData+Option+T.into_values.Goals as goal

pub move_values-requires-clause-full : goal.move_values-requires-clause-full
move_values-requires-clause-full g c = rw (c.as_mut_slice.ensures.value) c.requires

pub returns-in-Ok-clause-values : goal.returns-in-Ok-clause-values
returns-in-Ok-clause-values g c = c.move_values.ensures ∙ c.as_mut_slice.ensures.value
