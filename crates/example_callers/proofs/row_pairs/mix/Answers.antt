-- One more pixel is an average, and at the end all pixels are.
use Rattle.std.proofs.Common.{ℕ, zero, suc, ◌≡◌, ◌+◌, ◌/◌, ◌<◌, ◌≤◌, List, [], ◌∷◌, ◌++◌, length, take, drop}
use Rattle.std.proofs.Common.{slice_index_or, slice_set, refl, ap, arith, append-nil}
use Rattle.std.proofs.{lemmas.List.drop_all, lemmas.List.length-map, lemmas.List.take_all, lemmas.Slice.Zip.length-zip}
use Rattle.example_callers.specs.{RowPairs.averages}
use Rattle.example_callers.proofs.row_pairs.mix.Goals as goal

-- The averages of the first pixels, followed by the old pixels.
abbrev mixed : List ℕ → List ℕ → ℕ → List ℕ
mixed row other x = take x (averages row other) ++ drop x row

mixed_more : (row other : List ℕ) (x : ℕ) → x < length row → length row ≡ length other
    → slice_set (mixed row other x) x ((slice_index_or (mixed row other x) x 0 + slice_index_or other x 0) / 2) ≡ mixed
    row other (x + 1)
mixed_more [] other x h same = absurd (omega arith)
mixed_more (p ∷ row) [] x h same = absurd (omega (arith, same))
mixed_more (p ∷ row) (q ∷ other) zero h same = refl
mixed_more (p ∷ row) (q ∷ other) (suc x) h same =
    let next : suc x + 1 ≡ suc (x + 1) = omega arith in
    rw next (ap (λ r. (p + q) / 2 ∷ r) (mixed_more row other x (omega arith) (omega (arith, same))))

pub loop-x-preserved : goal.loop-x-preserved
loop-x-preserved c =
    rw (c.midpoint.ensures, c.loop-x.invariant) (mixed_more c.args.row.now c.args.other.now c.loop-x.x
    c.loop-x-test.true c.requires)

pub returns : goal.returns
returns c =
    let row = c.args.row.now in let x = c.loop-x.x in let all = averages row c.args.other.now in
    let short : length all ≤ x = simp (length-map, length-zip) (omega (arith, c.loop-x-test.false)) in
    rw (c.loop-x.invariant, take_all x all short, drop_all x row c.loop-x-test.false) (append-nil all)
