-- The next entry is moved out, and the entries after it are unchanged.
use Rattle.std.proofs.Common.{rules, ℕ, suc, ◌≡◌, List, [], ◌∷◌, ◌++◌, ◌+◌, ◌<◌, ◌≤◌, All, Option, Some, IsSome, map}
use Rattle.std.proofs.Common.{drop, length, get_or, slice_set, subst, sym, ap, ◌∙◌, arith, append-nil}
use Rattle.std.proofs.lemmas.List.{drop_all, drop_more, drop-set-lt, map-append, append_assoc}
use Rattle.v_frame_buffer.proofs.aligned.move_values.Goals as goal
use Rattle.v_frame_buffer.proofs.aligned.move_values.Goals.{in-Some, in_default}

module _ {A : Type 0} where
  next_ahead : (ys : List A) (i : ℕ) (d x y : A) → i < length ys → x ≡ get_or ys i d → drop i ys ≡ x ∷ drop (i + 1)
      (slice_set ys i y)
  next_ahead ys i d x y h e = rw e (search (rules, drop_more, drop-set-lt, h))

  one_more : (moved : List A) (value : A) (ahead rest all : List (Option A)) → ahead ≡ Some value ∷ rest → map Some
      moved ++ ahead ≡ all →
      map Some (moved ++ value ∷ []) ++ rest ≡ all
  one_more moved value ahead rest all e h = simp (map-append, append_assoc) (rw e at h)

  all_moved : (moved ahead all : List A) (i : ℕ) → moved ++ drop i ahead ≡ all → length ahead ≤ i → moved ≡ all
  all_moved moved ahead all i e h = sym (append-nil moved) ∙ ap (λ rest. moved ++ rest) (sym (drop_all i ahead h)) ∙ e

pub loop-entry-preserved : goal.loop-entry-preserved
loop-entry-preserved g c =
    let ys = c.loop-entry.entry-items in let i = c.loop-entry.entry-index in let x = c.take.result in
    let rest = drop (i + 1) (slice_set ys i c.take.new.self) in
    let inside : i < length ys = omega (arith, c.loop-entry-test.true, c.loop-entry.auto.entry-items) in
    let ahead : drop i ys ≡ x ∷ rest = next_ahead ys i c.entry-item.result x c.take.new.self inside
    c.take.ensures.value in
    let full : All IsSome (x ∷ rest) = subst (All IsSome) ahead c.loop-entry.invariant.full in
    elim c.match-take.branch [
      | in-Some w ↦ rw (w.values-is) (record {
        values = rw (w.push.ensures.items) (one_more _ w.in-Some.value _ rest _
            (ahead ∙ ap (λ e. e ∷ rest) w.in-Some.is) c.loop-entry.invariant.values);
        full = λ k d h. full (suc k) d (omega (arith, h));
        room = omega (arith, w.push.ensures.spare, c.loop-entry.invariant.room);
      })
      | in_default w ↦ search (rules, full 0 x (omega arith))
    ]

pub returns : goal.returns
returns g c =
    rw (c.finish.ensures) (all_moved _ c.loop-entry.entry-items _ c.loop-entry.entry-index
    c.loop-entry.invariant.values (omega (
      arith,
      c.loop-entry.auto.entry-items,
    )))

pub loop-entry-init : goal.loop-entry-init
loop-entry-init g c = record {
  values = ap (λ (moved : List g.row.T.Denot). map Some moved ++ c.args.entries.now) c.requires.none_moved;
  full = c.requires.full;
  room = omega (arith, c.requires.room);
}

pub push-requires : goal.push-requires
push-requires g c = omega (arith, c.loop-entry.invariant.room, c.loop-entry-test.true, c.loop-entry.auto.entry-items)

pub finish-requires : goal.finish-requires
finish-requires g c = omega (
  arith,
  c.loop-entry.invariant.room,
  c.loop-entry-test.false,
  c.loop-entry.auto.entry-items,
  c.loop-entry.auto.entry-index-end,
)
