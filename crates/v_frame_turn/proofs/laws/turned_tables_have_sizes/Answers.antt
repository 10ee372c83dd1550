-- A transposed table has as many rows as the table had columns.
use Rattle.v_frame_turn.proofs.Quarters.{size_mirrored, size_reversed, size_rotated_180, size_rotated_270}
use Rattle.v_frame_turn.proofs.Quarters.{size_rotated_90, size_transposed}
use Rattle.v_frame_turn.proofs.laws.turned_tables_have_sizes.Goals as goal

pub returns-clause-vertical : goal.returns-clause-vertical
returns-clause-vertical g c = size_reversed

pub returns-clause-horizontal : goal.returns-clause-horizontal
returns-clause-horizontal g c = size_mirrored

pub returns-clause-rotated_180 : goal.returns-clause-rotated_180
returns-clause-rotated_180 g c = size_rotated_180

pub returns-clause-transposed : goal.returns-clause-transposed
returns-clause-transposed g c = size_transposed

pub returns-clause-rotated_90 : goal.returns-clause-rotated_90
returns-clause-rotated_90 g c = size_rotated_90

pub returns-clause-rotated_270 : goal.returns-clause-rotated_270
returns-clause-rotated_270 g c = size_rotated_270
