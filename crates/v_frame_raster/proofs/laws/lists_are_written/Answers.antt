use Rattle.v_frame_raster.proofs.tables.WrittenLists.{agrees_begun, agrees_more, agrees_whole}
use Rattle.v_frame_raster.proofs.laws.lists_are_written.Goals as goal

pub returns-clause-begun : goal.returns-clause-begun
returns-clause-begun g c = agrees_begun

pub returns-clause-item : goal.returns-clause-item
returns-clause-item g c = agrees_more

pub returns-clause-whole : goal.returns-clause-whole
returns-clause-whole g c = agrees_whole
