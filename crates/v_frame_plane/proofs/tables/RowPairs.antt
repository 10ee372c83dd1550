-- The table after writes into two rows of a buffer.
use Rattle.std.proofs.Common.{ℕ, ◌≡◌, ◌≢◌, ◌+◌, ◌-◌, ◌<◌, ◌≤◌, List, ◌++◌, length, take, drop, Some, slice_get}
use Rattle.std.proofs.Common.{slice_set, refl, sym, ◌∙◌, ap, subst, arith}
use Rattle.std.proofs.Common.{append_assoc, length-append, length-drop, take-append-drop}
use Rattle.std.proofs.lemmas.List.{drop-drop, drop-take, length-take, take_at, drop_at}
use Rattle.std.specs.List.{refill}
use Rattle.v_frame_buffer.specs.Part.{with_part}
use Rattle.v_frame_buffer.proofs.Parts.{length-with_part}
use Rattle.v_frame_raster.specs.Geometry.{alloc_size_of, place_of}
use Rattle.v_frame_plane.specs.Plane.{with_row}
use Rattle.v_frame_raster.specs.Writes.{WritesRows, with_two_parts, WritesEachPair}
use Rattle.v_frame_raster.specs.Raster.{Raster, raster, table_of}
use Rattle.v_frame_raster.proofs.tables.Lists.{refill_same}
use Rattle.v_frame_raster.proofs.Plans.{place_of_row, row_within}
use Rattle.v_frame_raster.proofs.tables.OwnPlaces.{row_ends_above}
use Rattle.v_frame_raster.proofs.tables.Pictures.{overwritten, length-overwritten}
use Rattle.v_frame_raster.proofs.tables.Places.{row_wide}
use Rattle.v_frame_plane.proofs.tables.RowWrites.{writes_each_row}

module _ {T : Type 0} where
  -- Writing two parts at once is writing one after the other.
  parts_in_turn : (xs ys zs : List T) (start next width : ℕ) → start + width ≤ next → next + width ≤ length xs → length
      ys ≡ width → length zs ≡ width
      → refill (length xs) xs (with_two_parts xs start width next width ys zs) ≡ with_part (with_part xs start ys) next
      zs
  parts_in_turn xs ys zs start next width order inside wide other_wide =
      let n : ℕ = next - (start + width) in
      let rest : List T = drop (start + width) xs in
      let front : List T = take start xs ++ (ys ++ take n rest) in
      let one : List T = overwritten xs start ys in
      let both : List T = overwritten one next zs in
      let to : next ≡ start + width + n = omega (arith, order) in
      let end : start + width + (n + width) ≡ next + width = omega (arith, to) in
      let between : drop (start + width) (take next xs) ≡ take n rest = ap (λ k. drop (start + width) (take k xs)) to ∙
      drop-take (start + width) n xs in
      let one_is : one ≡ front ++ drop n rest = simp (wide, append_assoc, take-append-drop) (rw drop-drop refl) in
      let long : length front ≡ next = simp (length-append, length-take, length-drop, wide)
      (omega (arith, order, inside)) in
      let above = take_at front (drop n rest) next long in let below = drop_at front (drop n rest) next long in
      let at_once : with_two_parts xs start width next width ys zs ≡ both =
      rw (
        between,
        one_is,
        above,
        below,
        other_wide,
        drop-drop width n rest,
        drop-drop (n + width) (start + width) xs,
        end,
      ) (simp append_assoc) in
      let one_long : length one ≡ length xs = length-overwritten xs ys start (omega (arith, wide, order, inside)) in
      let both_long : length both ≡ length one = length-overwritten one zs next
      (omega (arith, one_long, other_wide, inside)) in
      rw (
        at_once,
        refill_same xs one one_long,
        refill_same xs both (both_long ∙ one_long),
        refill_same one both
            both_long,
      ) refl

  module _ (p : Raster T) (whole : length p.buffer ≡ alloc_size_of p.geometry) where
    -- Writing two rows where two rows lie replaces both in the table, and keeps the border.
    pub writes_each_pair : (y z : ℕ) (old old_other : List T) → y < z → z < p.geometry.height → slice_get (table_of p)
        y ≡ Some old →
        slice_get (table_of p) z ≡ Some old_other → WritesEachPair p y z old old_other
    writes_each_pair y z old old_other order high is other_is = λ row other same other_same.
        let g = p.geometry in let xs = p.buffer in let start = place_of g 0 y in let next = place_of g 0 z in
        let apart : y ≢ z = λ e. absurd (omega (arith, order, e)) in
        let one = writes_each_row p whole y old (omega (arith, order, high)) is row same in
        let two = writes_each_row (with_row p y row) (length-with_part xs start row ∙ whole) z old_other high
        (one.others z (λ e. apart (sym e)) ∙ other_is)
        other other_same in
        let inside : next + g.width ≤ length xs = omega
        (arith, whole, row_within g z high, place_of_row g z (omega (arith, high))) in
        let above = row_ends_above g y z start next g.width order refl refl refl in
        let in_turn = parts_in_turn xs row other start next g.width above inside
        (same ∙ row_wide p whole y old is) (other_same ∙ row_wide p whole z old_other other_is) in
        subst (λ entries. WritesRows p y z (raster g entries) row other) (sym in_turn) (record {
          geometry = refl;
          border = two.border ∙ one.border;
          table = two.table ∙ ap (λ t. slice_set t z other) one.table;
          first = two.others y apart ∙ one.written;
          second = two.written;
          others = λ k from_y from_z. two.others k from_z ∙ one.others k from_y;
        })
