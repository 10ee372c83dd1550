-- No argument so far requests help.
use Rattle.std.proofs.Common.{ℕ, ◌≡◌, ◌<◌, [], false, get_or}
use Rattle.yuv_words.specs.Calls.{is_help_option}
use Rattle.yuv_words.specs.Words.{texts_of}
use Rattle.yuv_words.proofs.call.help_topic.Given as goal

abbrev pub invariant-loop-word : goal.invariant-loop-word
invariant-loop-word l = (k : ℕ) → k < l.word-index → is_help_option (get_or (texts_of l.front) k []) ≡ false
