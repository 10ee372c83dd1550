-- Loops that write the pixels of a row from left to right.
use Rattle.std.proofs.Common.{ℕ, ◌≡◌, ◌+◌, ◌<◌, List, length, Option, Some, slice_get, slice_set, length-set, sym, ◌∙◌, arith}
use Rattle.v_frame_raster.proofs.tables.Lists.{others_are_read, set_is_read}
use borrow.Author.Count.{below_more}

module _ {T : Type 0} (at : ℕ → Option T) where
  -- The pixels below index `x` are the expected ones.
  abbrev pub WrittenBefore : List T → ℕ → Type 0
  WrittenBefore out x = (k : ℕ) → k < x → slice_get out k ≡ at k

  -- One more pixel.
  pub one_written : (out : List T) (x : ℕ) (item : T) → WrittenBefore out x → x < length out → at x ≡ Some item
      → WrittenBefore (slice_set out x item) (x + 1)
  one_written out x item so_far inside is =
      below_more (λ k. slice_get (slice_set out x item) k ≡ at k) x
      (λ k h. others_are_read out x k item (λ e. absurd (omega (arith, e))) ∙ so_far k h)
      (set_is_read out x item inside ∙ sym is)

  -- Two more pixels.
  pub two_written : (out : List T) (x : ℕ) (first second : T) → WrittenBefore out x → x + 1 < length out
      → at x ≡ Some first → at (x + 1) ≡ Some second
      → WrittenBefore (slice_set (slice_set out x first) (x + 1) second) (x + 1 + 1)
  two_written out x first second so_far inside is next =
      one_written (slice_set out x first) (x + 1) second (one_written out x first so_far (omega arith) is)
      (omega (arith, length-set out x first)) next
