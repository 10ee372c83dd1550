-- The number is 0, or it is too large.
use Rattle.yuv_words.proofs.Said.{no_gain}
use Rattle.yuv_words.proofs.values.U16OptionValue.spelled.Goals as goal

pub returns-then-n-eq0 : goal.returns-then-n-eq0
returns-then-n-eq0 c = no_gain c.args.text.now c.in_ok-n.n c.in_ok-n.ensures c.then-n-eq0.either
