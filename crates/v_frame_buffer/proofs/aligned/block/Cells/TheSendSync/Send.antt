use denote.RattleType.{RattleType}
use denote.Param.Send.{IsSend}
use Rattle.v_frame_buffer.proofs.block.BlockCrosses.{cells_cross}
use Rattle.v_frame_buffer.specs.contracts.aligned.block.Cells.{the_row}

pub send : (R : RattleType) → IsSend R → IsSend (the_row R)
send = cells_cross
