-- The columns and rows in which the source overlaps the target are a rectangle of the source. No other pixel of the
-- source lies on the target.
use Rattle.std.proofs.Common.{FitsSigned, to_z, of_z, w64, ℕ, ℤ, pos, ◌≡◌, ◌+◌, ◌+ℤ◌, ◌-◌, ◌<◌, ◌≤◌, ap, ◌∙◌, inl, inr, arith, length}
use Rattle.std.proofs.lemmas.Int.{ints}
use Rattle.std.proofs.lemmas.Bool.{cases_lt}
use Rattle.v_frame.specs.Prelude.{pixel_at}
use Rattle.v_frame_ops.proofs.Parts.{part_of, fits_behind, shown_inside, kept_beside, kept_rest}
use Rattle.v_frame_ops.proofs.Tables.{rectangle_holds}
use Rattle.v_frame_ops.proofs.rows.clipped.copy_region_clipped.Goals as goal
use Rattle.v_frame_ops.proofs.rows.clipped.copy_region_clipped.Goals.{then-across-eq0-via-then-across-eq0, then-across-eq0-via-else-across-eq0+then-down-eq0}

-- The target column `k` under source column `i`, counted from the first columns that overlap.
lies_after : (offset : ℤ) (start skipped i k : ℕ) → pos k ≡ offset +ℤ pos i → pos start ≡ offset +ℤ pos skipped
    → skipped ≤ i → k ≡ start + (i - skipped)
lies_after offset start skipped i k on place from = omega (arith, ints)

plain : (offset : ℤ) (start skipped : ℕ) → FitsSigned w64 offset
    → pos start ≡ to_z w64 (of_z w64 offset) +ℤ pos skipped → pos start ≡ offset +ℤ pos skipped
plain offset start skipped fits h = omega (arith, ints)

pub returns-then-across-eq0-clause-inside : goal.returns-then-across-eq0-clause-inside
returns-then-across-eq0-clause-inside g c = λ i j k l wide high wide1 high1 on.
    let across = c.new-across.ensures.all i k (omega (arith, wide, c.width.ensures.value))
    wide1 (omega (arith, ints, on.across, c.ranges.x)) in
    let down = c.new-down.ensures.all j l (omega (arith, high, c.height.ensures.value))
    high1 (omega (arith, ints, on.down, c.ranges.y)) in
    elim c.then-across-eq0.branch [
      | then-across-eq0-via-then-across-eq0 w ↦ absurd (omega (arith, across.0, across.1))
      | then-across-eq0-via-else-across-eq0+then-down-eq0 w ↦ absurd (omega (arith, down.0, down.1))
    ]

-- The rows that are written are a part of the rows, and begin at the first pixel that the source covers.
pub copy_rows-requires-clause-fit : goal.copy_rows-requires-clause-fit
copy_rows-requires-clause-fit g c =
    let columns = c.new-across.result in
    let rows = c.new-down.result in
    let part = part_of c.args.width c.args.height c.args.stride columns.start rows.start columns.count rows.count
    (length c.args.buffer.now) c.requires.fit (omega arith) (omega arith) (c.new-across.ensures.in_target (omega arith))
    (c.new-down.ensures.in_target (omega arith)) in
    rw (c.split_at_mut-from.ensures.back) (fits_behind _ _ _ columns.start rows.start columns.count rows.count c.args.buffer.now part)

pub returns-clause-inside : goal.returns-clause-inside
returns-clause-inside g c = λ i j k l wide high wide1 high1 on.
    let source = c.args.source.now in
    let columns = c.new-across.result in
    let rows = c.new-down.result in
    let part = part_of c.args.width c.args.height c.args.stride columns.start rows.start columns.count rows.count
    (length c.args.buffer.now) c.requires.fit (omega arith) (omega arith) (c.new-across.ensures.in_target (omega arith))
    (c.new-down.ensures.in_target (omega arith)) in
    let rest = rw (c.split_at_mut-from.ensures.back) at c.copy_rows.ensures.rest in
    let across = c.new-across.ensures.all i k (omega (arith, wide, c.width.ensures.value))
    wide1 (omega (arith, ints, on.across, c.ranges.x)) in
    let down = c.new-down.ensures.all j l (omega (arith, high, c.height.ensures.value))
    high1 (omega (arith, ints, on.down, c.ranges.y)) in
    let a : ℕ = i - columns.skipped in
    let b : ℕ = j - rows.skipped in
    let first : pos columns.start ≡ c.args.x +ℤ pos columns.skipped =
    plain c.args.x columns.start columns.skipped c.ranges.x (c.new-across.ensures.place (omega arith)) in
    let top : pos rows.start ≡ c.args.y +ℤ pos rows.skipped =
    plain c.args.y rows.start rows.skipped c.ranges.y (c.new-down.ensures.place (omega arith)) in
    let column : k ≡ columns.start + a =
    lies_after c.args.x columns.start columns.skipped i k on.across first across.0 in
    let row : l ≡ rows.start + b = lies_after c.args.y rows.start rows.skipped j l on.down top down.0 in
    let column_there : columns.skipped + a ≡ i = omega (arith, across.0) in
    let row_there : rows.skipped + b ≡ j = omega (arith, down.0) in
    let few : a < columns.count = omega (arith, across.0, across.1) in
    let low : b < rows.count = omega (arith, down.0, down.1) in
    rw (c.split_at_mut-from.ensures.front, column, row)
    (shown_inside _ _ _ columns.start rows.start columns.count rows.count c.args.buffer.now part c.copy_rows.new.buffer rest a b few low
    ∙ ap (λ part. pixel_at part a b) (c.copy_rows.ensures.table ∙ c.visible_region-part.ensures.value)
    ∙ rectangle_holds source columns.skipped rows.skipped columns.count rows.count a b few low
    ∙ ap (λ n. pixel_at source n (rows.skipped + b)) column_there ∙ ap (pixel_at source i) row_there)

pub returns-clause-beside : goal.returns-clause-beside
returns-clause-beside g c = λ k l none.
    let columns = c.new-across.result in
    let rows = c.new-down.result in
    let part = part_of c.args.width c.args.height c.args.stride columns.start rows.start columns.count rows.count
    (length c.args.buffer.now) c.requires.fit (omega arith) (omega arith) (c.new-across.ensures.in_target (omega arith))
    (c.new-down.ensures.in_target (omega arith)) in
    let rest = rw (c.split_at_mut-from.ensures.back) at c.copy_rows.ensures.rest in
    let in_columns = c.new-across.ensures.in_source (omega arith) in
    let in_rows = c.new-down.ensures.in_source (omega arith) in
    let kept = kept_beside _ _ _ columns.start rows.start columns.count rows.count c.args.buffer.now part c.copy_rows.new.buffer rest k l in
    rw (c.split_at_mut-from.ensures.front) (elim (cases_lt k columns.start) [
      | inl before ↦ kept (inl (inl before))
      | inr from ↦ elim (cases_lt k (columns.start + columns.count)) [
        | inr behind ↦ kept (inl (inr behind))
        | inl within ↦ elim (cases_lt l rows.start) [
          | inl above ↦ kept (inr (inl above))
          | inr down ↦ elim (cases_lt l (rows.start + rows.count)) [
            | inr below ↦ kept (inr (inr below))
            | inl here ↦ absurd (none (columns.skipped + (k - columns.start)) (rows.skipped + (l - rows.start))
                (omega (arith, in_columns, c.width.ensures.value)) (omega (arith, in_rows, c.height.ensures.value))
                (record {
                  across = omega (arith, ints, c.ranges.x, c.new-across.ensures.place (omega arith));
                  down = omega (arith, ints, c.ranges.y, c.new-down.ensures.place (omega arith));
                }))
          ]
        ]
      ]
    ])

pub returns-clause-rest : goal.returns-clause-rest
returns-clause-rest g c =
    let columns = c.new-across.result in
    let rows = c.new-down.result in
    let part = part_of c.args.width c.args.height c.args.stride columns.start rows.start columns.count rows.count
    (length c.args.buffer.now) c.requires.fit (omega arith) (omega arith) (c.new-across.ensures.in_target (omega arith))
    (c.new-down.ensures.in_target (omega arith)) in
    let rest = rw (c.split_at_mut-from.ensures.back) at c.copy_rows.ensures.rest in
    rw (c.split_at_mut-from.ensures.front)
    (kept_rest _ _ _ columns.start rows.start columns.count rows.count c.args.buffer.now part c.copy_rows.new.buffer rest)
