-- The loop steps handle one more strip of a line, and one more line of a strip. After the last step, all windows are
-- added.
use Rattle.std.proofs.Common.{◌≡◌, ◌+◌, ◌*◌, ◌≤◌, ◌<◌, length, inl, inr, refl, ap, ◌∙◌, arith}
use Rattle.std.proofs.lemmas.Bool.{cases_lt}
use Rattle.std.proofs.lemmas.List.{get_or-set_same, get_or-set_other, length-set}
use Rattle.v_frame.specs.Prelude.{width_of}
use Rattle.v_frame_measures.specs.Ssim.{windows_along}
use Rattle.v_frame_measures.proofs.Strips.{are_of_bytes, are_over, strip_added}
use Rattle.v_frame_measures.proofs.similarity.lines.sums_of_lines.Goals as goal

pub loop-k-init : goal.loop-k-init
loop-k-init g c = record { long = c.requires.sums; none = λ k d h. absurd (omega (arith, h)) }

pub loop-k-preserved : goal.loop-k-preserved
loop-k-preserved g c =
    let sums = c.loop-k.sums in let new = c.zero.result in let n = c.loop-k.k in let so_far = c.loop-k.invariant in
    let room : n < length sums = omega (arith, so_far.long, c.requires.few) in
    record {
      long = length-set sums n new ∙ so_far.long;
      none = λ k d few. elim (cases_lt k n) [
        | inl earlier ↦
            ap g.F.LineSum.float (get_or-set_other sums n k new d (λ e. absurd (omega (arith, earlier)))) ∙ so_far.none k d earlier
        | inr last ↦
            let same : k ≡ n = omega (arith, few, last) in
            rw same (ap g.F.LineSum.float (get_or-set_same sums n new d room) ∙ c.zero.ensures)
      ];
    }

pub loop-strip-init : goal.loop-strip-init
loop-strip-init g c = record {
  long = c.loop-k.invariant.long;
  begun = λ h. refl;
  ended = λ h. absurd (omega (arith, h, c.max-strips.ensures));
  so_far = λ k d few. c.loop-k.invariant.none k d (omega (arith, few));
}

pub with_windows-requires-clause-sums : goal.with_windows-requires-clause-sums
with_windows-requires-clause-sums g c k few =
    let a = c.args.a.now in let b = c.args.b.now in let width = c.width in let width1 = c.width-other in
    let n = c.loop-strip.first in let windows = c.windows_of_strip-windows in
    let begun = c.loop-strip.invariant.begun c.loop-strip-test.true in
    let h : 4 * n + 4 * (windows.result + 1) ≤ width.result = omega (arith, begun, windows.ensures.within, width.ensures.value, c.requires.across) in
    let h1 : 4 * n + 4 * (windows.result + 1) ≤ width1.result =
    omega (arith, h, width.ensures.value, width1.ensures.value, c.requires.wide) in
    are_over g.T.Pixel.form a b width.result width1.result width.ensures.rows width1.ensures.rows c.requires.high n
    (c.args.y + c.loop-line.line) (windows.result + 1) h h1 c.loop-line.above c.sum_rows-in-loop-line.new.self
    c.loop-line.invariant.above c.sum_rows-in-loop-line.ensures c.args.most (omega (arith, c.requires.narrow)) c.requires.first
    c.requires.second k (omega (arith, few))

pub with_windows-requires-clause-bytes : goal.with_windows-requires-clause-bytes
with_windows-requires-clause-bytes g c small k few =
    let a = c.args.a.now in let b = c.args.b.now in let width = c.width in let width1 = c.width-other in
    let n = c.loop-strip.first in let windows = c.windows_of_strip-windows in
    let begun = c.loop-strip.invariant.begun c.loop-strip-test.true in
    let h : 4 * n + 4 * (windows.result + 1) ≤ width.result = omega (arith, begun, windows.ensures.within, width.ensures.value, c.requires.across) in
    let h1 : 4 * n + 4 * (windows.result + 1) ≤ width1.result =
    omega (arith, h, width.ensures.value, width1.ensures.value, c.requires.wide) in
    are_of_bytes g.T.Pixel.form a b width.result width1.result width.ensures.rows width1.ensures.rows c.requires.high n
    (c.args.y + c.loop-line.line) (windows.result + 1) h h1 c.loop-line.above c.sum_rows-in-loop-line.new.self
    c.loop-line.invariant.above c.sum_rows-in-loop-line.ensures c.args.most small c.requires.first c.requires.second k
    (omega (arith, few))

pub loop-line-preserved : goal.loop-line-preserved
loop-line-preserved g c =
    let a = c.args.a.now in let b = c.args.b.now in let width = c.width in let width1 = c.width-other in
    let form = g.T.Pixel.form in let format = g.F.LineSum.format in let y = c.args.y in let line = c.loop-line.line in
    let sums = c.loop-line.sums in let new = c.with_windows.result in let so_far = c.loop-line.invariant in
    let n = c.loop-strip.first in let windows = c.windows_of_strip-windows in
    let begun = c.loop-strip.invariant.begun c.loop-strip-test.true in
    let h : 4 * n + 4 * (windows.result + 1) ≤ width.result = omega (arith, begun, windows.ensures.within, width.ensures.value, c.requires.across) in
    let h1 : 4 * n + 4 * (windows.result + 1) ≤ width1.result =
    omega (arith, h, width.ensures.value, width1.ensures.value, c.requires.wide) in
    let room : line < length sums = omega (arith, so_far.long, c.requires.few) in
    let before = ap g.F.LineSum.float c.index-sums-line.is ∙ so_far.left line c.index-sums-line.result (omega arith) (omega arith) in
    let added =
    c.with_windows.ensures
    ∙ strip_added form a b width.result width1.result width.ensures.rows width1.ensures.rows c.requires.high n (y + line)
    (windows.result + 1) h h1 c.loop-line.above c.sum_rows-in-loop-line.new.self so_far.above c.sum_rows-in-loop-line.ensures
    format c.args.constants.now windows.result refl _ before in
    let below : 4 * (y + line) + 4 ≡ 4 * (y + (line + 1)) = omega arith in
    record {
      long = length-set sums line new ∙ so_far.long;
      done = λ k d few. elim (cases_lt k line) [
        | inl earlier ↦
            ap g.F.LineSum.float (get_or-set_other sums line k new d (λ e. absurd (omega (arith, earlier)))) ∙ so_far.done k d earlier
        | inr last ↦
            let same : k ≡ line = omega (arith, few, last) in
            rw same (ap g.F.LineSum.float (get_or-set_same sums line new d room) ∙ added)
      ];
      left = λ k d later few.
          ap g.F.LineSum.float (get_or-set_other sums line k new d (λ e. absurd (omega (arith, later)))) ∙ so_far.left k d (omega (arith, later)) few;
      above = rw below at c.sum_rows-in-loop-line.ensures;
    }

pub returns : goal.returns
returns g c =
    let all : c.loop-strip.first ≡ windows_along (width_of c.args.a.now) =
    omega (arith, c.loop-strip.invariant.ended c.loop-strip-test.false, c.width.ensures.value) in
    record { value = λ k few d. rw all at (c.loop-strip.invariant.so_far k d few); long = c.loop-strip.invariant.long }
