use Rattle.yuv_system.proofs.input_file.InputFileRead.read.Goals as goal
use Rattle.yuv_system.proofs.LookedAt.{reads_on, reads_first, has_room}

pub returns-then-self-clause-bytes : goal.returns-then-self-clause-bytes
returns-then-self-clause-bytes g c = reads_on _ _ _ c.if-self.true _ _ _ _ c.read.ensures.bytes

pub returns-clause-bytes : goal.returns-clause-bytes
returns-clause-bytes g c = (
  reads_first _ _ _ _ _ _ c.args.self.now.order c.if-self.false c.min-count.ensures c.copy_from_slice.ensures.len
      c.copy_from_slice.ensures.after _,
  λ none room. absurd (has_room _ _ _ _ _ _ c.args.self.now.order c.if-self.false c.min-count.ensures c.copy_from_slice.ensures.len
      c.copy_from_slice.ensures.after none room),
)
