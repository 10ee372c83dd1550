-- The bytes before the current one are a line, and with one more byte other than a line feed they
-- are one again.
use Rattle.std.proofs.Common.{ℕ, ◌≢◌, ◌+◌, ◌<◌, List, get_or, length, take, sym, subst, arith}
use Rattle.std.proofs.lemmas.List.{take_all, take_more}
use Rattle.std.proofs.lemmas.List.Elements.{All-push}
use Rattle.std.specs.Prelude.{All}
use Rattle.v_frame_y4m_c.proofs.lines.line_length.Goals as goal

longer : (bytes : List ℕ) (at : ℕ) → at < length bytes → All (λ b. b ≢ 10) (take at bytes) → get_or bytes at 0 ≢ 10
    → All (λ b. b ≢ 10) (take (at + 1) bytes)
longer bytes at within passed other =
    subst (λ (l : List ℕ). All (λ b. b ≢ 10) l) (sym (take_more bytes at 0 within))
    (All-push (λ b. b ≢ 10) (take at bytes) (get_or bytes at 0) passed other)

pub returns-then-at-eq-MAX_LINE_BYTES-clause-error : goal.returns-then-at-eq-MAX_LINE_BYTES-clause-error
returns-then-at-eq-MAX_LINE_BYTES-clause-error c =
    let bytes = c.args.bytes.now in
    let all = longer bytes c.loop-at.at c.loop-at-test.true c.loop-at.invariant.passed c.if-bytes-at-eq10.false in (
      subst (λ (n : ℕ). All (λ b. b ≢ 10) (take (n + 1) bytes)) c.if-at-eq-MAX_LINE_BYTES.true all,
      omega arith,
    )

pub returns-clause-error : goal.returns-clause-error
returns-clause-error c =
    let bytes = c.args.bytes.now in (
      subst (λ (l : List ℕ). All (λ b. b ≢ 10) l) (take_all c.loop-at.at bytes c.loop-at-test.false)
          c.loop-at.invariant.passed,
      omega arith,
    )
