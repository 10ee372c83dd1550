-- If `word` names a command, that command is later in the table.
use Rattle.std.proofs.Common.{◌≡◌, ◌≤◌}
use Rattle.yuv_words.specs.Names.{command_text}
use Rattle.yuv_words.specs.declared.command.CommandName.{CommandName}
use Rattle.yuv_words.proofs.Places.{command_place}
use Rattle.yuv_words.proofs.command.CommandName.named.Given as goal

abbrev pub invariant-loop-command : goal.invariant-loop-command
invariant-loop-command l = (n : CommandName) → l.word ≡ command_text n → l.command-index ≤ command_place n
