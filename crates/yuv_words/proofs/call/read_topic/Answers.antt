-- The second argument is one too many.
use Rattle.std.proofs.Common.{drop}
use Rattle.yuv_words.specs.Words.{texts_of}
use Rattle.yuv_words.proofs.Texts.{texts_second}
use Rattle.yuv_words.proofs.call.read_topic.Goals as goal

pub returns-in-len2-up-clause-fault : goal.returns-in-len2-up-clause-fault
returns-in-len2-up-clause-fault c =
    (_, texts_of (drop 2 c.args.words.now), texts_second c.args.words.now _ c.in-len2-up.len_at_least)
