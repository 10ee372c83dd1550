-- Each of these entries is 0.
use Rattle.std.proofs.lemmas.List.{get_or-replicate}
use Rattle.v_frame_statistics.proofs.rows.histograms.empty_table.Goals as goal

pub returns : goal.returns
returns c = λ v below. get_or-replicate 256 v 0 0 below
