-- One more row of each plane is the one that its bytes encode, interleaved.
use Rattle.std.proofs.Common.{ℕ, ◌≡◌, ◌+◌, ◌-◌, ◌*◌, ◌<◌, List, length, take, drop, Some, slice_get, refl, sym}
use Rattle.std.proofs.Common.{◌∙◌, ap, arith}
use Rattle.std.proofs.Common.{◌≤◌, length-drop, length-take-le}
use Rattle.std.proofs.Math.Nat.{mul-le-mul_left}
use Rattle.std.proofs.lemmas.List.{length-set}
use Rattle.v_frame_raster.proofs.tables.Pictures.{length-shown}
use Rattle.v_frame.specs.Prelude.{Geometry, row_major, table_of}
use Rattle.v_frame_semi_planar.specs.Interleaved.{interleaved}
use Rattle.v_frame_semi_planar.proofs.Interleaving.{one_more_apart, all_apart}
use Rattle.v_frame_semi_planar.proofs.Stored.{stored_rows, stored_row, length-stored_rows, row_major-stored_rows}
use Rattle.v_frame_semi_planar.proofs.storing.store_chroma.Goals as goal

pub loop-y-init : goal.loop-y-init
loop-y-init g c = record {
  count = length-shown c.args.first.now;
  second_count = length-shown c.args.second.now ∙ c.requires.high;
  rows = record { at = λ k h. absurd (omega arith) };
  border = refl;
  second_border = refl;
}

-- The bytes of a row end within those of all rows.
row_ends : (piece y height all : ℕ) → y < height → piece * height ≡ all → piece * y + piece ≤ all
row_ends piece y height all low is =
    let next : y + 1 ≤ height = omega arith in
    omega (arith, mul-le-mul_left piece next, is)

pub overflow_mul-start : goal.overflow_mul-start
overflow_mul-start g c =
    let piece = 2 * (c.width-width.result * c.BYTES.result) in let bytes = c.args.bytes.now in
    let all : piece * c.height-height.result ≡ length bytes =
    rw (c.width-width.ensures.value, c.height-height.ensures.value, c.BYTES.ensures, g.met.T.Pixel.bytes_of_form, c.requires.long)
    (omega arith) in
    omega (arith, row_ends piece c.loop-y.y c.height-height.result (length bytes) (omega arith) all)

pub slice_bounds-row-end : goal.slice_bounds-row-end
slice_bounds-row-end g c =
    let piece = 2 * (c.width-width.result * c.BYTES.result) in let bytes = c.args.bytes.now in
    let all : piece * c.height-height.result ≡ length bytes =
    rw (c.width-width.ensures.value, c.height-height.ensures.value, c.BYTES.ensures, g.met.T.Pixel.bytes_of_form, c.requires.long)
    (omega arith) in
    omega (arith, row_ends piece c.loop-y.y c.height-height.result (length bytes) (omega arith) all)

pub store_chroma_rows-requires-clause-long : goal.store_chroma_rows-requires-clause-long
store_chroma_rows-requires-clause-long g c κs within =
    let y = c.loop-y.y in
    let piece = 2 * (c.width-width.result * c.BYTES.result) in let bytes = c.args.bytes.now in
    let all : piece * c.height-height.result ≡ length bytes =
    rw (c.width-width.ensures.value, c.height-height.ensures.value, c.BYTES.ensures, g.met.T.Pixel.bytes_of_form, c.requires.long)
    (omega arith) in
    let ends = row_ends piece y c.height-height.result (length bytes) (omega arith) all in
    let wide : c.loop-y.first.geometry.width ≡ c.args.first.now.geometry.width =
    ap (λ (p : Geometry × List (List g.row.T.Denot)). p.0.width) c.loop-y.invariant.border in
    let cut : piece * y + piece - piece * y ≡ piece = omega arith in
    let size : piece ≡ 2 * g.T.Pixel.BYTES * c.loop-y.first.geometry.width =
    rw (wide, c.width-width.ensures.value, c.BYTES.ensures) (omega arith) in
    ap (λ n. length (take n (drop (piece * y) bytes))) cut
    ∙ length-take-le piece (drop (piece * y) bytes) (omega (arith, ends, length-drop (piece * y) bytes)) ∙ size

pub loop-y-preserved : goal.loop-y-preserved
loop-y-preserved g c =
    let form = g.T.Pixel.form in let unused = c.args.unused in let y = c.loop-y.y in
    let w = c.args.first.now.geometry.width in let h = c.args.first.now.geometry.height in
    let piece = 2 * (c.width-width.result * c.BYTES.result) in let bytes = c.args.bytes.now in
    let us = table_of c.loop-y.first in let vs = table_of c.loop-y.second in let before = c.loop-y.invariant in
    let rows = stored_rows form unused (2 * w) piece h bytes in
    let wide : c.loop-y.first.geometry.width ≡ w =
    ap (λ (p : Geometry × List (List g.row.T.Denot)). p.0.width) before.border in
    let cut : piece * y + piece - piece * y ≡ piece = omega arith in
    let wrote = c.store_chroma_rows.ensures.tables in
    let u = wrote.0 in let v = wrote.1 in
    let high : y < h = omega (arith, c.height-height.ensures.value) in
    let is : slice_get rows y ≡ Some (interleaved u v) =
    stored_row form unused (2 * w) piece h bytes y high ∙ ap Some (sym (rw (wide, cut) at wrote.4)) in
    record {
      count = ap length wrote.2 ∙ length-set us y u ∙ before.count;
      second_count = ap length wrote.3 ∙ length-set vs y v ∙ before.second_count;
      rows =
          rw (wrote.2, wrote.3) (one_more_apart rows us vs y u v before.rows (omega (arith, before.count))
          (omega (arith, before.second_count)) is);
      border = c.store_chroma_rows.ensures.border ∙ before.border;
      second_border = c.store_chroma_rows.ensures.second_border ∙ before.second_border;
    }

pub returns-clause-pixels : goal.returns-clause-pixels
returns-clause-pixels g c =
    let form = g.T.Pixel.form in let unused = c.args.unused in
    let w = c.args.first.now.geometry.width in let h = c.args.first.now.geometry.height in
    let piece = 2 * (c.width-width.result * c.BYTES.result) in let bytes = c.args.bytes.now in
    let all = c.loop-y.invariant in
    let rows = stored_rows form unused (2 * w) piece h bytes in
    let long = length-stored_rows form unused (2 * w) piece h bytes in
    let size : piece ≡ form.size * (2 * w) =
    rw (c.width-width.ensures.value, c.BYTES.ensures, g.met.T.Pixel.bytes_of_form) (omega arith) in
    let same = all_apart rows (table_of c.loop-y.first) (table_of c.loop-y.second) c.loop-y.y (all.count ∙ sym long)
    (all.second_count ∙ sym long) (omega (arith, long, c.height-height.ensures.value)) all.rows in
    ap row_major (sym same) ∙ row_major-stored_rows form unused (2 * w) piece h bytes size
