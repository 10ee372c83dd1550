-- Each mark lies on the axis.
use Rattle.std.proofs.Common.{ℕ, ◌≡◌, ◌+◌, ◌-◌, ◌*◌, ◌/◌, ◌++◌, ◌<◌, ◌≤◌, arith, ap, ◌∙◌}
use Rattle.std.specs.String.{string_bytes}
use Rattle.v_frame_chart.specs.declared.axes.Axis.{Axis}
use Rattle.v_frame_chart.specs.Frames.{across_of, first_mark, frame_mark, mark_count, marked_frames}
use Rattle.v_frame_chart.proofs.Appended.{marked_more}
use Rattle.v_frame_chart.proofs.Marked.{marks_lie}
use Rattle.v_frame_chart.proofs.frames.push_frame_marks.Goals as goal

-- The mark that is `k` steps after the first mark lies on the axis.
lies : (first span step start count k : ℕ) → start ≡ first_mark first step → start < step
    → count ≡ mark_count first span step → k < count → start + k * step ≤ span
unfolding mark_count
lies first span step start count k is near counted within =
    let inside : k < (span + step - first_mark first step) / step = omega (arith, counted) in
    let here : first_mark first step < step = omega arith in
    let found = marks_lie k span step (first_mark first step) here inside in
    omega (arith, found)

pub overflow_mul-k : goal.overflow_mul-k
overflow_mul-k c =
    let on = lies c.args.first c.args.last c.args.step _ _ c.loop-k.k c.first_mark-start.ensures.value
    c.first_mark-start.ensures.bound c.mark_count-k-end.ensures c.loop-k-test.true in
    omega (arith, on)

pub overflow_add-start : goal.overflow_add-start
overflow_add-start c =
    let on = lies c.args.first c.args.last c.args.step _ _ c.loop-k.k c.first_mark-start.ensures.value
    c.first_mark-start.ensures.bound c.mark_count-k-end.ensures c.loop-k-test.true in
    omega (arith, on)

pub loop-k-preserved : goal.loop-k-preserved
loop-k-preserved c =
    let first = c.args.first in let step = c.args.step in let k = c.loop-k.k in
    marked_more (frame_mark (across_of c.args.span) first) (λ k. first_mark first step + k * step) k _ _ _
    (c.in_ok-push_frame_mark.ensures {u = tt}
    ∙ ap (λ (across : Axis). string_bytes c.loop-k.text
    ++ frame_mark across first (c.first_mark-start.result + k * step)) c.across_of-across.ensures
    ∙ ap (λ (start : ℕ). string_bytes c.loop-k.text
    ++ frame_mark (across_of c.args.span) first (start + k * step)) c.first_mark-start.ensures.value)
    c.loop-k.invariant

pub returns : goal.returns
unfolding marked_frames
returns c =
    let at_end : c.loop-k.k ≡ c.mark_count-k-end.result = omega arith in
    rw (← c.mark_count-k-end.ensures, ← at_end) c.loop-k.invariant
