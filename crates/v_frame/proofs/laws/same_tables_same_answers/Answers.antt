-- Both replays begin with the same tables.
use Rattle.std.proofs.Common.{sym, ◌∙◌}
use Rattle.v_frame.proofs.laws.same_tables_same_answers.Goals as goal

pub returns-clause-answers : goal.returns-clause-answers
returns-clause-answers g c = c.in_ok-first.ensures.answers

pub returns-clause-same_answers : goal.returns-clause-same_answers
returns-clause-same_answers g c = rw c.requires at c.in_ok-first.ensures.answers ∙ sym c.in_ok-second.ensures.answers

pub returns-clause-tables : goal.returns-clause-tables
returns-clause-tables g c = c.in_ok-first.ensures.tables

pub returns-clause-shown : goal.returns-clause-shown
returns-clause-shown g c = rw c.requires at c.in_ok-first.ensures.tables ∙ sym c.in_ok-second.ensures.tables
