-- If `word` is the text of an option, that option is later in the table.
use Rattle.std.proofs.Common.{◌≡◌, ◌≤◌}
use Rattle.yuv_words.specs.Names.{option_text}
use Rattle.yuv_words.specs.Reading.{option_place}
use Rattle.yuv_words.specs.declared.option_name.OptionName.{OptionName}
use Rattle.yuv_words.proofs.option_name.OptionName.named.Given as goal

abbrev pub invariant-loop-option : goal.invariant-loop-option
invariant-loop-option l = (n : OptionName) → l.word ≡ option_text n → l.option-index ≤ option_place n
