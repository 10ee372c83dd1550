-- Lists, for proofs of functions that fill rows.
-- - filled_more: a row that is filled so far.
-- - last_filled: a table whose last row is put back after it was filled.
use Rattle.std.proofs.Common.{ℕ, ◌≡◌, ◌+◌, ◌-◌, ◌<◌, ◌∙◌, suc, zero, All, List, [], ◌∷◌, ◌++◌, length, map, drop}
use Rattle.std.proofs.Common.{replicate, slice_set, Some, refl, sym, ap, arith}
use Rattle.std.proofs.lemmas.List.{length-replicate, map-append, set_at}
use Rattle.std.proofs.lemmas.List.Elements.{All-pop}
use Rattle.v_frame.specs.{DrawnItems.put_back, Walk.item_from, Walk.remaining_after}
use Rattle.v_frame.specs.{declared.replay.draw.Side.TheVariants.Back}
use Rattle.v_frame.proofs.Draws.{fewer, taken}

pub filled_more : {X : Type 0} (row : List X) (i : ℕ) (x : X) → i < length row → slice_set
    (replicate i x ++ drop i row) i x ≡ replicate (i + 1) x ++
    drop (i + 1) row
filled_more [] i x h = absurd (omega arith)
filled_more (y ∷ row) zero x h = refl
filled_more (y ∷ row) (suc i) x h =
    let next : suc i + 1 ≡ suc (i + 1) = omega arith in
    rw next (ap (λ r. x ∷ r) (filled_more row i x (omega arith)))

pub last_filled : {X : Type 0} (rows : List (List X)) (width : ℕ) (value : X) → All (λ row. length row ≡ width) rows →
    let filled = put_back Back (λ row. replicate (length row) value) (item_from Back rows) (remaining_after Back rows)
    in
    (filled ≡ slice_set rows (length rows - 1) (replicate width value)) × (map length filled ≡ map length rows)
last_filled [] width value wide = (refl, refl)
last_filled (row ∷ rows) width value wide =
    let all = row ∷ rows in let n = length all - 1 in let last = taken Back row rows in let front = remaining_after
    Back all in
    let long : length last.0 ≡ width = (All-pop (λ row. length row ≡ width) all front (Some last.0) last.2 wide).1 in
    let set = ap (λ xs. slice_set xs n (replicate width value)) last.2 ∙ set_at front last.0 [] (replicate width value)
    n (fewer Back all) in
    let full : map length (front ++ replicate width value ∷ []) ≡ map length all = map-append length front
    (replicate width value ∷ []) ∙
    ap (λ n. map length front ++ n ∷ []) (length-replicate width value ∙ sym long) ∙
    sym (ap (map length) last.2 ∙ map-append length front (last.0 ∷ [])) in
    rw (last.1, long) (sym set, full)
