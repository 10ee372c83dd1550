-- The pixel that is read at an index is the item of the row at this index.
use Rattle.std.proofs.Common.{◌≡◌, Some, slice_get, true, refl, sym, ◌∙◌, ap, arith}
use Rattle.std.proofs.lemmas.Option.{same_Some, slice_get_read}
use Rattle.v_frame_ops.proofs.rows.compare.first_difference_of_rows.Goals as goal
use borrow.Author.Count.{below_more}

pub loop-x-init : goal.loop-x-init
loop-x-init g c = λ k h. absurd (omega arith)

pub returns-then-not-are_same-clause-first : goal.returns-then-not-are_same-clause-first
returns-then-not-are_same-clause-first g c =
    let here = slice_get_read c.args.row.now _ c.loop-x.x _ refl c.loop-x-test.true c.index-row-x.is in
    let there = slice_get_read c.args.other.now _ c.loop-x.x _ c.requires c.loop-x-test.true c.index-other-x.is in
    record {
      within = c.loop-x-test.true;
      before = c.loop-x.invariant;
      differs = λ same. let is : c.are_same.result ≡ true = c.are_same.ensures.1
          (same_Some _ _ (sym here ∙ same ∙ there)) in cc;
    }

pub loop-x-preserved : goal.loop-x-preserved
loop-x-preserved g c =
    let here = slice_get_read c.args.row.now _ c.loop-x.x _ refl c.loop-x-test.true c.index-row-x.is in
    let there = slice_get_read c.args.other.now _ c.loop-x.x _ c.requires c.loop-x-test.true c.index-other-x.is in
    let same = c.are_same.ensures.0 c.if-not-are_same.false in
    below_more (λ k. slice_get c.args.row.now k ≡ slice_get c.args.other.now k) c.loop-x.x c.loop-x.invariant
    (here ∙ ap Some same ∙ sym there)

pub returns-then-are_rows_same-clause-none : goal.returns-then-are_rows_same-clause-none
returns-then-are_rows_same-clause-none g c = λ nothing k h.
    ap (λ xs. slice_get xs k) (c.are_rows_same.ensures.0 c.if-are_rows_same.true)

pub returns-clause-none : goal.returns-clause-none
returns-clause-none g c = λ nothing k h. c.loop-x.invariant k (omega arith)
