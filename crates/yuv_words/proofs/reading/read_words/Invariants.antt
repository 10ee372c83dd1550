-- The arguments so far are read.
use Rattle.std.proofs.Common.{take}
use Rattle.yuv_words.specs.Reading.{IsRead}
use Rattle.yuv_words.specs.Words.{texts_of}
use Rattle.yuv_words.proofs.reading.read_words.Given as goal

abbrev pub invariant-loop-word : goal.invariant-loop-word
invariant-loop-word l = IsRead l.command (texts_of (take l.word-index l.words)) l.reading
