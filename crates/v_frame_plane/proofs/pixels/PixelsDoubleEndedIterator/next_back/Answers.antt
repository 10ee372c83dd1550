-- The pixel comes from the row that was begun from the back. Otherwise a row is begun: the last one, or the one that
-- was begun from the front.
use Rattle.std.proofs.Common.{[], ◌∷◌, length, sym, ap, arith, append_assoc, append-nil, length-append}
use Rattle.std.proofs.lemmas.Bool.{eqb-true}
use Rattle.std.proofs.lemmas.List.{nil_from_length}
use Rattle.v_frame_raster.proofs.tables.CutRows.{row_major-append}
use Rattle.v_frame_plane.proofs.iterators.BegunRows.{last_drawn, drawn_countable, none_countable}
use Rattle.v_frame_plane.proofs.iterators.WalkRuns.{last_taken}
use Rattle.v_frame_plane.proofs.pixels.PixelsDoubleEndedIterator.next_back.Goals as goal
use Rattle.v_frame_plane.proofs.pixels.PixelsDoubleEndedIterator.next_back.Goals.{then-is_empty+in-Some, then-is_empty+in-None, else-is_empty}

pub invariant_of-self-2 : goal.invariant_of-self-2
invariant_of-self-2 g c =
    let others = length-append c.in_ok-pixel.rest.now (c.in_ok-pixel.pixel.now ∷ []) in
    elim c.if-is_empty.branch [
      | then-is_empty+in-Some w ↦
          let cut = ap length (rw (w.row-is) at c.in_ok-pixel.ensures.cases.0) in
          rw (w.self-inside-is) (drawn_countable c.self.invariant (last_drawn w.in-Some.ensures.steps) _ _
          (omega (arith, cut, others)))
      | then-is_empty+in-None w ↦
          let cut = ap length (rw (w.row-is, w.take.ensures.value) at c.in_ok-pixel.ensures.cases.0) in
          let left = ap length w.take.ensures.after in
          rw (w.self-inside-is) (none_countable c.self.invariant w.in-None.ensures.steps.1 _ _
          (omega (arith, cut, others, left)))
      | else-is_empty w ↦
          let cut = ap length (rw (w.row-is) at c.in_ok-pixel.ensures.cases.0) in
          rw (w.self-inside-is) (record {
            full = c.self.invariant.full;
            bound = omega (arith, c.self.invariant.bound, cut, others);
          })
    ]

pub returns-clause-steps : goal.returns-clause-steps
returns-clause-steps g c =
    rw (← c.self.view_is)
    (elim c.if-is_empty.branch [
      | then-is_empty+in-Some w ↦
          let cut = rw (w.row-is) at c.in_ok-pixel.ensures.cases.0 in
          let back = nil_from_length c.self.inside.back.now (eqb-true _ 0 (sym w.if-is_empty.ensures)) in
          rw (back, w.self-inside-is, w.in-Some.ensures.steps, cut)
          (simp (row_major-append, append_assoc, append-nil))
      | then-is_empty+in-None w ↦
          let cut = rw (w.row-is, w.take.ensures.value) at c.in_ok-pixel.ensures.cases.0 in
          let back = nil_from_length c.self.inside.back.now (eqb-true _ 0 (sym w.if-is_empty.ensures)) in
          rw (back, w.self-inside-is, w.in-None.ensures.steps.0, w.in-None.ensures.steps.1, w.take.ensures.after, cut)
          (simp append-nil)
      | else-is_empty w ↦
          let cut = rw (w.row-is) at c.in_ok-pixel.ensures.cases.0 in
          rw (w.self-inside-is, cut) (simp append_assoc)
    ])

pub returns-clause-goes : goal.returns-clause-goes
returns-clause-goes g c = last_taken (λ pixel. pixel) _ _ _ _ tt (returns-clause-steps g c)
