-- No argument so far is `--`.
use Rattle.std.proofs.Common.{ℕ, ◌≡◌, ◌<◌, [], false, get_or}
use Rattle.yuv_words.specs.Words.{is_end, texts_of}
use Rattle.yuv_words.proofs.reading.end_place.Given as goal

abbrev pub invariant-loop-at : goal.invariant-loop-at
invariant-loop-at l = (k : ℕ) → k < l.at → is_end (get_or (texts_of l.words) k []) ≡ false
