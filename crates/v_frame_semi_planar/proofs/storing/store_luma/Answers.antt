-- One more row is the one that its bytes encode.
use Rattle.std.proofs.Common.{ℕ, ◌≡◌, ◌+◌, ◌-◌, ◌*◌, ◌<◌, List, length, take, drop, slice_get, slice_set, sym}
use Rattle.std.proofs.Common.{◌∙◌, ap, arith}
use Rattle.std.proofs.Math.Nat.{mul_comm}
use Rattle.std.proofs.lemmas.List.{length-set}
use Rattle.v_frame.specs.Prelude.{Geometry, row_major, table_of}
use Rattle.v_frame_raster.proofs.tables.Lists.{same_by_slice_get, set_is_read, others_are_read}
use Rattle.v_frame_semi_planar.specs.SemiPlanar.{shown_pixels}
use Rattle.v_frame_semi_planar.proofs.Stored.{stored_rows, stored_row, length-stored_rows, row_major-stored_rows}
use Rattle.v_frame_semi_planar.proofs.storing.store_luma.Goals as goal
use borrow.Author.Count.{below_more}

pub loop-y-preserved : goal.loop-y-preserved
loop-y-preserved g c =
    let form = g.T.Pixel.form in let unused = c.args.unused in let y = c.loop-y.y in
    let w = c.args.plane.now.geometry.width in let h = c.args.plane.now.geometry.height in
    let piece = c.width-width.result * c.BYTES.result in let bytes = c.args.bytes.now in
    let now = table_of c.loop-y.plane in let before = c.loop-y.invariant in
    let rows = stored_rows form unused w piece h bytes in
    let wide : c.loop-y.plane.geometry.width ≡ w =
    ap (λ (p : Geometry × List (List g.row.T.Denot)). p.0.width) before.border in
    let cut : piece * y + piece - piece * y ≡ piece = omega arith in
    let part : ℕ → List ℕ = λ n. take n (drop (piece * y) bytes) in
    let row = shown_pixels form unused w (part piece) in
    let table : table_of c.store_luma_row.new.plane ≡ slice_set now y row =
    c.store_luma_row.ensures.table
    ∙ ap (λ n. slice_set now y (shown_pixels form unused n (part (piece * y + piece - piece * y)))) wide
    ∙ ap (λ n. slice_set now y (shown_pixels form unused w (part n))) cut in
    let high : y < h = omega (arith, c.height-height.ensures.value) in
    record {
      count = ap length table ∙ length-set now y row ∙ before.count;
      rows =
          λ k low. ap (λ t. slice_get t k) table
          ∙ below_more (λ i. slice_get (slice_set now y row) i ≡ slice_get rows i) y
          (λ i below. others_are_read now y i row (omega arith) ∙ before.rows i below)
          (set_is_read now y row (omega (arith, before.count)) ∙ sym (stored_row form unused w piece h bytes y high))
          k low;
      border = c.store_luma_row.ensures.border ∙ before.border;
    }

pub returns-clause-pixels : goal.returns-clause-pixels
returns-clause-pixels g c =
    let form = g.T.Pixel.form in let unused = c.args.unused in
    let w = c.args.plane.now.geometry.width in let h = c.args.plane.now.geometry.height in
    let piece = c.width-width.result * c.BYTES.result in let bytes = c.args.bytes.now in
    let all = c.loop-y.invariant in
    let size : piece ≡ form.size * w =
    rw (c.width-width.ensures.value, c.BYTES.ensures, g.met.T.Pixel.bytes_of_form) (mul_comm w form.size) in
    let same = same_by_slice_get (table_of c.loop-y.plane) (stored_rows form unused w piece h bytes)
    (all.count ∙ sym (length-stored_rows form unused w piece h bytes)) (λ k low.
    all.rows k (omega (arith, all.count, c.height-height.ensures.value))) in
    ap row_major same ∙ row_major-stored_rows form unused w piece h bytes size
