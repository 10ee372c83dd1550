-- The values in the results of a replay.
use Rattle.std.specs.Prelude.{List, Option, None}
use Rattle.v_frame.specs.Prelude.{Answer}
use Rattle.v_frame.specs.declared.replay.answer.Answer.TheVariants.{RowShown}

-- The row in a result, if the result has one.
abbrev pub row_in : {T : Type 0} → Answer T → Option (List T)
row_in (RowShown row) = row
row_in other = None
