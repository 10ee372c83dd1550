-- The row is overwritten if the memory for its old pixels was allocated. Otherwise nothing is written.
use Rattle.std.proofs.Common.{refl}
use Rattle.std.proofs.lemmas.Result.{err_from_is_err_and}
use Rattle.v_frame.proofs.replay.row_writes.replay_row_mut.Goals as goal

pub returns-clause-table : goal.returns-clause-table
returns-clause-table g c = c.overwrite_row.ensures.table

pub returns-in_err-answer-clause-err : goal.returns-in_err-answer-clause-err
returns-in_err-answer-clause-err g c = rw (err_from_is_err_and c.from_residual.result c.from_residual.ensures.1).1 refl
