-- Two options are equal if their tags are equal.
use Rattle.std.proofs.Common.{arith, rules, subst}
use Rattle.std.proofs.lemmas.Grind.{common_steps}
use Rattle.std.proofs.lemmas.List.Elements.{contains_decides, Decides-contains}
use Rattle.std.specs.Bool.{Decides}
use Rattle.std.specs.Prelude.{Contains, List}
use denote.Enum.Bare.{same_true, sameb, true_same}
use Rattle.yuv_words.specs.contracts.option_name.OptionName.{the_type}
use Rattle.yuv_words.specs.declared.option_name.OptionName.{OptionName}
use Rattle.yuv_words.proofs.command.CommandName.takes.Goals as goal

pub returns : goal.returns
returns c =
    let found = Decides-contains c.options.result.now c.args.option c.contains.result
    (contains_decides (sameb the_type)
    (λ a b. (same_true the_type (search rules) a b, true_same the_type a b))
    c.options.result.now c.args.option c.contains.result c.contains.ensures.cases) in
    let decides = subst (λ (xs : List OptionName). Decides c.contains.result (Contains xs c.args.option))
    c.options.ensures found in
    (λ yes. decides.0 (grind (arith, common_steps, yes)), λ has. grind (arith, common_steps, decides.1 has))
