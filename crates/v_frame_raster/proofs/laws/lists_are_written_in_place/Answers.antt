use Rattle.v_frame_raster.proofs.tables.WrittenLists.{written_begun, written_more, written_whole}
use Rattle.v_frame_raster.proofs.laws.lists_are_written_in_place.Goals as goal

pub returns-clause-begun : goal.returns-clause-begun
returns-clause-begun g c = written_begun

pub returns-clause-item : goal.returns-clause-item
returns-clause-item g c = written_more

pub returns-clause-whole : goal.returns-clause-whole
returns-clause-whole g c = written_whole
