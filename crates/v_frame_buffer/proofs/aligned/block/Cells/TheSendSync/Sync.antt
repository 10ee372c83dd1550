use denote.RattleType.{RattleType}
use denote.Param.Send.{IsSync}
use Rattle.v_frame_buffer.proofs.block.BlockCrosses.{cells_shared}
use Rattle.v_frame_buffer.specs.contracts.aligned.block.Cells.{the_row}

pub sync : (R : RattleType) → IsSync R → IsSync (the_row R)
sync = cells_shared
