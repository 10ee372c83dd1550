-- The file after the last one that the command takes is the first file too many.
use Rattle.std.proofs.Common.{◌+◌, ap, arith, take, drop, length}
use Rattle.yuv_words.specs.Words.{texts_of}
use Rattle.yuv_words.proofs.Texts.{texts_split}
use Rattle.yuv_words.proofs.files.Files.with_all.Goals as goal

pub returns-in-None-clause-fault : goal.returns-in-None-clause-fault
returns-in-None-clause-fault c = (
  texts_of (take c.loop-name.name-index c.args.names.now),
  texts_of (drop (c.loop-name.name-index + 1) c.args.names.now),
  texts_split c.args.names.now c.loop-name.name-index _ c.loop-name-test.true,
  omega (arith, ap length c.loop-name.invariant.0, c.loop-name.invariant.1, c.in-None.ensures.none),
)
