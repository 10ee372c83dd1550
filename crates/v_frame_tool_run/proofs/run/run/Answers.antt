-- The written text is that of the results, which are those of a successful copy.
use Rattle.std.proofs.Common.{ℕ, ◌≡◌, List, ◌∙◌, sym, ap, subst, take, drop, length, is_ok, true, rules}
use Rattle.v_frame.specs.Prelude.{cut_rows}
use Rattle.v_frame_tool_run.specs.Printed.{text_of_table}
use Rattle.v_frame_tool_run.specs.Run.{tool_fault_of, LeavesWriter}
use Rattle.v_frame_tool_run.proofs.Texts.{after_copy, leaves_writer}
use Rattle.v_frame_tool_run.proofs.run.run.Goals as goal

pub returns-clause-ok : goal.returns-clause-ok
returns-clause-ok g c =
    let source = c.args.source.now in
    let accepted : is_ok c.take_copied.result ≡ true = search rules in
    let answers = after_copy source c.take_copied.new.answers.items c.take_copied.result accepted
    (sym c.in_ok-answers.ensures.ok ∙ c.take_copied.ensures) in
    let text = c.text_of.ensures (length (take 4 source)) 2 (take 4 source) (take 4 (drop 4 source))
    (c.as_slice.ensures.value ∙ answers) in
    search rules

pub returns-in_err-write_all-clause-left : goal.returns-in_err-write_all-clause-left
returns-in_err-write_all-clause-left g c =
    let source = c.args.source.now in
    let accepted : is_ok c.take_copied.result ≡ true = search rules in
    let answers = after_copy source c.take_copied.new.answers.items c.take_copied.result accepted
    (sym c.in_ok-answers.ensures.ok ∙ c.take_copied.ensures) in
    let text = c.text_of.ensures (length (take 4 source)) 2 (take 4 source) (take 4 (drop 4 source))
    (c.as_slice.ensures.value ∙ answers) in
    let same : c.as_bytes.result.now ≡ text_of_table (cut_rows 4 2 source) = c.as_bytes.ensures.value ∙ rw
    (c.in_ok-text.was) at text in
    let fault = c.in_err-write_all.field-0.0 in
    let left = leaves_writer g.W.Write.contents c.args.out.now c.write_all.new.self c.as_bytes.result.now fault
    (search rules) in
    let due = subst (λ (bytes : List ℕ). LeavesWriter g.W.Write.contents c.args.out.now c.write_all.new.self bytes
    (tool_fault_of fault)) same left in
    search rules
