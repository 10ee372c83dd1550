use denote.RattleType.{RattleType}
use denote.Param.Send.{IsSync}
use Rattle.core.specs.declared.alloc.Allocator.{Ghosts}
use Rattle.v_frame_buffer.proofs.block.BlockCrosses.{deed_shared}
use Rattle.v_frame_buffer.specs.contracts.aligned.block.Deed.{the_row}

pub sync : (R A : RattleType) (g : Ghosts A.Denot) → IsSync (the_row R A g)
sync = deed_shared
