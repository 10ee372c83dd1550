-- A row of the plane lies in the buffer.
use Rattle.v_frame_raster.proofs.Plans.{row_start_within}
use Rattle.example_recipes.proofs.places.row_start.Goals as goal

pub returns-clause-within : goal.returns-clause-within
returns-clause-within c = row_start_within c.args.geometry _ _ _ c.data_origin.ensures.value c.stride.ensures
    c.requires.inside
