-- One more row of a histogram.
use Rattle.std.proofs.Common.{◌≡◌, ◌∙◌, ◌+◌, ◌<◌, ◌++◌, ◌∷◌, [], ℕ, zero, suc, List, add-one, add-zero, ap, append_assoc, arith, length, sym, take, zero-add}
use Rattle.std.proofs.Math.ListN.{get_or}
use Rattle.std.proofs.lemmas.List.{append-nil}
use Rattle.yuv_reports.specs.Histograms.{histogram_row, histogram_rows}
use Rattle.v_frame_formats.specs.declared.component.Component.{Component}

pub rows_more : (plane : Component) (start : ℕ) (counts : List ℕ) (i d : ℕ) → i < length counts
    → histogram_rows plane start (take (suc i) counts)
    ≡ histogram_rows plane start (take i counts) ++ histogram_row plane (start + i) (get_or counts i d)
rows_more plane start [] i d within = absurd (omega arith)
rows_more plane start (count ∷ counts) zero d within =
    append-nil (histogram_row plane start count) ∙ ap (λ n. histogram_row plane n count) (sym (add-zero start))
rows_more plane start (count ∷ counts) (suc i) d within =
    let first = histogram_row plane start count in
    let before = histogram_rows plane (start + 1) (take i counts) in
    let below : i < length counts = omega arith in
    let place : start + 1 + i ≡ start + suc i = omega arith in
    ap (λ rows. first ++ rows) (rows_more plane (start + 1) counts i d below)
    ∙ sym (append_assoc first before (histogram_row plane (start + 1 + i) (get_or counts i d)))
    ∙ ap (λ n. (first ++ before) ++ histogram_row plane n (get_or counts i d)) place

pub rows_so_far : (plane : Component) (counts : List ℕ) (i d : ℕ) → i < length counts
    → histogram_rows plane 0 (take (i + 1) counts)
    ≡ histogram_rows plane 0 (take i counts) ++ histogram_row plane i (get_or counts i d)
rows_so_far plane counts i d within =
    ap (λ n. histogram_rows plane 0 (take n counts)) (add-one i) ∙ rows_more plane 0 counts i d within
    ∙ ap (λ n. histogram_rows plane 0 (take i counts) ++ histogram_row plane n (get_or counts i d)) (zero-add i)
