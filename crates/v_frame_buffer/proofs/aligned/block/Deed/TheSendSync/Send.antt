use denote.RattleType.{RattleType}
use denote.Param.Send.{IsSend, Frees}
use Rattle.core.specs.declared.alloc.Allocator.{Ghosts}
use Rattle.v_frame_buffer.proofs.block.BlockCrosses.{deed_crosses}
use Rattle.v_frame_buffer.specs.contracts.aligned.block.Deed.{the_row}

pub send : (R A : RattleType) (g : Ghosts A.Denot) → IsSend A → Frees g g.dealloc_token → IsSend (the_row R A g)
send R A g s = deed_crosses R A g
