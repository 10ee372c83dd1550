-- Arguments that begin with the name of a command request that command or nothing.
use Rattle.std.proofs.Common.{ℕ, ◌≡◌, List, ◌∷◌, rules, subst, sym}
use Rattle.std.proofs.lemmas.Result.{IfErr-weaker}
use Rattle.std.specs.Prelude.{IfErr}
use Rattle.yuv_words.specs.Calls.{IsCall, IsWrittenAs}
use Rattle.yuv_words.specs.Names.{command_text}
use Rattle.yuv_words.specs.Words.{texts_of}
use Rattle.yuv_words.specs.declared.command.Command.{Command}
use Rattle.yuv_words.proofs.Callings.{only_calls}
use Rattle.yuv_words.proofs.call.read_command.Goals as goal

pub returns-in-Some-named-clause-refused : goal.returns-in-Some-named-clause-refused
returns-in-Some-named-clause-refused c =
    let is : texts_of c.args.words.now ≡ command_text c.in-Some-named.name ∷ texts_of c.in-Some.rest.now = search rules in
    IfErr-weaker c.read_call.result
    (λ _. (command : Command) → ¬ (IsCall c.in-Some-named.name command (texts_of c.in-Some.rest.now)))
    (λ _. (command : Command) → ¬ (IsWrittenAs (texts_of c.args.words.now) command))
    (λ _. only_calls c.in-Some-named.name (texts_of c.args.words.now) (texts_of c.in-Some.rest.now) is)
    c.read_call.ensures.refused

pub returns-in-None-clause-refused : goal.returns-in-None-clause-refused
returns-in-None-clause-refused c =
    let is : texts_of c.args.words.now ≡ c.in-Some.field-0-0.now.now ∷ texts_of c.in-Some.rest.now = search rules in
    subst (λ (words : List (List ℕ)). IfErr c.read_help.result (λ _. (command : Command) → ¬ (IsWrittenAs words command)))
    (sym is) c.read_help.ensures.refused
