-- The complete file is the contents of the writer that is returned.
use Rattle.yuv_pictures.proofs.file.end.Goals as goal

pub returns-in-Ok-clause-file : goal.returns-in-Ok-clause-file
returns-in-Ok-clause-file g c = λ start rows drawn.
    rw c.into_inner.ensures (c.in-Ok.ensures.file start rows drawn)
