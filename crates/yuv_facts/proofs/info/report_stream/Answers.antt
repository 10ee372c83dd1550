-- The properties were written first.
use Rattle.std.proofs.Common.{◌∙◌, ℕ, List, Ok, Err, Result, ap, subst, sym}
use Rattle.std.proofs.lemmas.Result.{on_ok_weaker, IfErr-weaker}
use Rattle.std.specs.Prelude.{OnOk}
use Rattle.std.specs.Io.KnownBytes.{Appends}
use Rattle.v_frame_y4m.specs.declared.header.StreamHeader.{StreamHeader}
use Rattle.yuv_facts.proofs.Counting.{made_and_written}
use Rattle.yuv_facts.specs.Facts.{stream_facts}
use Rattle.yuv_facts.proofs.info.report_stream.Goals as goal

in_any_case : {A E : Type 0} (result : Result A E) (P : Type 0) → P → OnOk result P
in_any_case (Ok done) P holds = holds
in_any_case (Err error) P holds = tt

pub returns-clause-header : goal.returns-clause-header
returns-clause-header g c asked =
    let contents = g.W.Write.contents in
    let source = c.args.source.now in
    let has = contents c.args.out.now in
    let mid = contents c.write_made.new.out in
    let both = made_and_written c.format_text-text.result _ _ c.in_ok-write_made.ensures.made c.format_text-text.ensures in
    let facts = both.2 ∙ ap (λ (h : StreamHeader). stream_facts h c.frame_len.result c.args.len) c.header.ensures
    ∙ ap (λ (n : ℕ). stream_facts source.header n c.args.len) c.frame_len.ensures.value in
    let appended = subst (λ (t : List ℕ). Appends has mid t) facts both.1 in
    in_any_case c.report_frames.result _
    (subst (λ (o : g.row.W.Denot). Appends has (contents o) (stream_facts source.header source.frame_len c.args.len))
    (sym (c.report_frames.ensures.unsaid asked)) appended)

pub returns-clause-counted : goal.returns-clause-counted
returns-clause-counted g c asked =
    let contents = g.W.Write.contents in
    let source = c.args.source.now in
    let has = contents c.args.out.now in
    let mid = contents c.write_made.new.out in
    let both = made_and_written c.format_text-text.result _ _ c.in_ok-write_made.ensures.made c.format_text-text.ensures in
    let facts = both.2 ∙ ap (λ (h : StreamHeader). stream_facts h c.frame_len.result c.args.len) c.header.ensures
    ∙ ap (λ (n : ℕ). stream_facts source.header n c.args.len) c.frame_len.ensures.value in
    let appended = subst (λ (t : List ℕ). Appends has mid t) facts both.1 in
    on_ok_weaker c.report_frames.result (λ frames. record { mid = mid; facts = appended; frames = frames })
    (c.report_frames.ensures.counted asked)

pub returns-clause-broken : goal.returns-clause-broken
returns-clause-broken g c asked =
    let contents = g.W.Write.contents in
    let source = c.args.source.now in
    let has = contents c.args.out.now in
    let mid = contents c.write_made.new.out in
    let both = made_and_written c.format_text-text.result _ _ c.in_ok-write_made.ensures.made c.format_text-text.ensures in
    let facts = both.2 ∙ ap (λ (h : StreamHeader). stream_facts h c.frame_len.result c.args.len) c.header.ensures
    ∙ ap (λ (n : ℕ). stream_facts source.header n c.args.len) c.frame_len.ensures.value in
    let appended = subst (λ (t : List ℕ). Appends has mid t) facts both.1 in
    IfErr-weaker c.report_frames.result _ _
    (λ error stops place. record { mid = mid; facts = appended; frames = stops place })
    (c.report_frames.ensures.broken asked)
