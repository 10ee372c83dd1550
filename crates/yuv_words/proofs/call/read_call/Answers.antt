-- The files and options that were read are those of the command.
use Rattle.std.proofs.Common.{subst, ap, ◌∙◌, ◌++◌, List, ℕ}
use Rattle.std.proofs.lemmas.Result.{err_from_is_err_and, IfErr-weaker, IfOk-weaker}
use Rattle.yuv_words.specs.Calls.{IsCall}
use Rattle.yuv_words.specs.Commands.{Says}
use Rattle.yuv_words.specs.Faults.{HasFault, HasFileFault, HasLateFile, HasValueFault, HasWordFault}
use Rattle.yuv_words.specs.Names.{file_count}
use Rattle.yuv_words.specs.Reading.{file_names, given_to, IsRead}
use Rattle.yuv_words.specs.Words.{texts_of}
use Rattle.yuv_words.specs.declared.command.Command.{Command}
use Rattle.yuv_words.proofs.Callings.{call_fault, call_refused, call_said, late_file}
use Rattle.yuv_words.proofs.Refusals.{word_refused}
use Rattle.std.specs.Prelude.{◌⊎◌}
use Rattle.yuv_words.proofs.call.read_call.Goals as goal

pub returns-in_err-reading-clause-refused : goal.returns-in_err-reading-clause-refused
returns-in_err-reading-clause-refused c =
    let p = err_from_is_err_and c.from_residual.result c.from_residual.ensures.1 in
    rw p.1 (λ command call. word_refused c.args.name command (texts_of c.args.words.now) call c.in_err-reading.field-0.0
    (subst (λ (words : List (List ℕ)). HasWordFault c.args.name words c.in_err-reading.field-0.0)
    c.cut_at_end.ensures.before c.in_err-reading.ensures.fault))

pub returns-in_err-files-clause-refused : goal.returns-in_err-files-clause-refused
returns-in_err-files-clause-refused c =
    let p = err_from_is_err_and c.from_residual-in_err-files.result c.from_residual-in_err-files.ensures.1 in
    let read = subst (λ (words : List (List ℕ)). IsRead c.args.name words c.in_ok-reading.reading)
    c.cut_at_end.ensures.before c.in_ok-reading.ensures.read in
    rw p.1 (λ command. late_file c.args.name (texts_of c.args.words.now) c.in_ok-reading.reading read
    c.in_ok-reading.ensures.ended command c.in_err-files.field-0.0
    (subst (λ (late : List (List ℕ)). HasLateFile (file_count c.args.name) (file_names c.in_ok-reading.reading.files)
    late c.in_err-files.field-0.0) c.cut_at_end.ensures.after c.in_err-files.ensures.fault))

pub returns-clause-said : goal.returns-clause-said
returns-clause-said c =
    let read = subst (λ (words : List (List ℕ)). IsRead c.args.name words c.in_ok-reading.reading)
    c.cut_at_end.ensures.before c.in_ok-reading.ensures.read in
    let all = c.in_ok-files.ensures.all ∙ ap (λ (late : List (List ℕ)). file_names c.in_ok-reading.reading.files ++ late)
    c.cut_at_end.ensures.after in
    IfOk-weaker c.command_of.result
    (λ (command : Command). Says (given_to c.in_ok-reading.reading.given) c.args.name command (file_names c.in_ok-files.files))
    (λ (command : Command). IsCall c.args.name command (texts_of c.args.words.now))
    (call_said c.args.name (texts_of c.args.words.now) c.in_ok-reading.reading read c.in_ok-reading.ensures.ended
    c.in_ok-files.files all) c.command_of.ensures.said

pub returns-clause-refused : goal.returns-clause-refused
returns-clause-refused c =
    let read = subst (λ (words : List (List ℕ)). IsRead c.args.name words c.in_ok-reading.reading)
    c.cut_at_end.ensures.before c.in_ok-reading.ensures.read in
    let all = c.in_ok-files.ensures.all ∙ ap (λ (late : List (List ℕ)). file_names c.in_ok-reading.reading.files ++ late)
    c.cut_at_end.ensures.after in
    IfErr-weaker c.command_of.result
    (λ _. (command : Command)
    → ¬ (Says (given_to c.in_ok-reading.reading.given) c.args.name command (file_names c.in_ok-files.files)))
    (λ _. (command : Command) → ¬ (IsCall c.args.name command (texts_of c.args.words.now)))
    (λ _. call_refused c.args.name (texts_of c.args.words.now) c.in_ok-reading.reading read c.in_ok-reading.ensures.ended
    c.in_ok-files.files all) c.command_of.ensures.refused

pub returns-clause-fault : goal.returns-clause-fault
returns-clause-fault c =
    let read = subst (λ (words : List (List ℕ)). IsRead c.args.name words c.in_ok-reading.reading)
    c.cut_at_end.ensures.before c.in_ok-reading.ensures.read in
    let all = c.in_ok-files.ensures.all ∙ ap (λ (late : List (List ℕ)). file_names c.in_ok-reading.reading.files ++ late)
    c.cut_at_end.ensures.after in
    IfErr-weaker c.command_of.result
    (λ error. HasFileFault (file_count c.args.name) (file_names c.in_ok-files.files) error
    ⊎ HasValueFault (given_to c.in_ok-reading.reading.given) error)
    (HasFault c.args.name (texts_of c.args.words.now))
    (call_fault c.args.name (texts_of c.args.words.now) c.in_ok-reading.reading read c.in_ok-reading.ensures.ended
    c.in_ok-files.files all) c.command_of.ensures.fault
