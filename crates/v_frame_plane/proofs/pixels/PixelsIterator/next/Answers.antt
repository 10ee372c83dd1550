-- A row is begun: the next one, or the one that was begun from the back.
use Rattle.std.proofs.Common.{length, refl, ap, arith, append_assoc, append-nil}
use Rattle.std.proofs.lemmas.List.{nil_from_length}
use Rattle.v_frame_plane.proofs.iterators.BegunRows.{first_drawn, drawn_countable, none_countable}
use Rattle.v_frame_plane.proofs.iterators.WalkRuns.{first_taken}
use Rattle.v_frame_plane.proofs.pixels.PixelsIterator.next.Goals as goal
use Rattle.v_frame_plane.proofs.pixels.PixelsIterator.next.Goals.{in-Some-next, in-None}

pub invariant_of-self-2 : goal.invariant_of-self-2
invariant_of-self-2 g c =
    elim c.match-next.branch [
      | in-Some-next w ↦
          let cut = ap length (rw (w.row-is) at c.in_ok-pixel.ensures.cases.0) in
          rw (w.self-inside-is) (drawn_countable c.self.invariant (first_drawn w.in-Some-next.ensures.steps) _ _
          (omega (arith, cut)))
      | in-None w ↦
          let cut = ap length (rw (w.row-is, w.take-row.ensures.value) at c.in_ok-pixel.ensures.cases.0) in
          rw (w.self-inside-is) (none_countable c.self.invariant w.in-None.ensures.steps.1 _ _
          (omega (arith, cut, ap length w.take-row.ensures.after)))
    ]

pub returns-in-Some-clause-steps : goal.returns-in-Some-clause-steps
returns-in-Some-clause-steps g c = rw (← c.self.view_is, c.in-Some.ensures.cases.0) refl

pub returns-in-Some-clause-goes : goal.returns-in-Some-clause-goes
returns-in-Some-clause-goes g c = first_taken (λ pixel. pixel) _ _ _ _ tt (returns-in-Some-clause-steps g c)

pub returns-clause-steps : goal.returns-clause-steps
returns-clause-steps g c =
    rw (← c.self.view_is, nil_from_length c.self.inside.front.now c.in_default.ensures.cases)
    (elim c.match-next.branch [
      | in-Some-next w ↦
          let cut = rw (w.row-is) at c.in_ok-pixel.ensures.cases.0 in
          rw (w.self-inside-is, w.in-Some-next.ensures.steps, cut) (simp append_assoc)
      | in-None w ↦
          let cut = rw (w.row-is, w.take-row.ensures.value) at c.in_ok-pixel.ensures.cases.0 in
          rw (w.self-inside-is, w.in-None.ensures.steps.0, w.in-None.ensures.steps.1, w.take-row.ensures.after, cut)
          (simp append-nil)
    ])

pub returns-clause-goes : goal.returns-clause-goes
returns-clause-goes g c = first_taken (λ pixel. pixel) _ _ _ _ tt (returns-clause-steps g c)

pub invariant_of-self : goal.invariant_of-self
invariant_of-self g c =
    record {
      full = c.self.invariant.full;
      bound = omega
          (arith, c.self.invariant.bound, ap length c.in-Some.ensures.cases.0);
    }

-- No pixel remains.
pub invariant_of-self-in_err-pixel : goal.invariant_of-self-in_err-pixel
invariant_of-self-in_err-pixel g c =
    elim c.match-next.branch [
      | in-Some-next w ↦ rw (w.self-inside-is) (drawn_countable c.self.invariant
          (first_drawn w.in-Some-next.ensures.steps) _ _ (omega arith))
      | in-None w ↦ rw (w.self-inside-is) (none_countable c.self.invariant w.in-None.ensures.steps.1 _ _
          (omega (arith, ap length w.take-row.ensures.after)))
    ]

pub returns-in_err-pixel-clause-steps : goal.returns-in_err-pixel-clause-steps
returns-in_err-pixel-clause-steps g c =
    elim c.match-next.branch [
      | in-Some-next w ↦
          let empty = rw (w.row-is) at c.in_err-pixel.ensures.cases in
          absurd (omega (arith, ((first_drawn w.in-Some-next.ensures.steps).full c.self.invariant.full).0, empty))
      | in-None w ↦
          let front = nil_from_length c.self.inside.front.now c.in_default.ensures.cases in
          let back = nil_from_length c.self.inside.back.now
          (rw (w.row-is, w.take-row.ensures.value) at c.in_err-pixel.ensures.cases) in
          let rows = w.in-None.ensures.steps in
          rw (
            c.from_residual.ensures,
            w.self-inside-is,
            ← c.self.view_is,
            front,
            rows.0,
            rows.1,
            w.take-row.ensures.after,
            back,
          ) (refl, refl)
    ]

pub returns-in_err-pixel-clause-goes : goal.returns-in_err-pixel-clause-goes
returns-in_err-pixel-clause-goes g c = first_taken (λ pixel. pixel) _ _ _ _ tt (returns-in_err-pixel-clause-steps g c)
