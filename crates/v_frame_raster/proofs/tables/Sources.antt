-- The pieces of a source with a stride: their fronts are rows that fit. Without tails, the fronts are the pieces.
use Rattle.std.proofs.Common.{ℕ, zero, suc, ◌≡◌, ◌+◌, ◌-◌, ◌*◌, ◌<◌, ◌≤◌, List, drop, map, refl, arith}
use Rattle.std.proofs.lemmas.List.{map-id, take-take}
use Rattle.v_frame_raster.specs.Table.{cut_rows}
use Rattle.v_frame_raster.specs.StridedRows.{piece_fronts, RowsFit}

-- The front of the last piece ends within the source.
pub fronts_fit : (front stride pieces entries : ℕ) → 0 < front → 0 < pieces → front ≤ stride → entries ≡ stride *
    pieces → RowsFit front pieces stride entries
fronts_fit front stride pieces entries wide high apart whole =
    let others = pieces - 1 in
    let e : pieces ≡ suc others = omega arith in
    let last : stride * suc others ≡ stride * others + stride = omega arith in
    let all : entries ≡ stride * suc others = rw (← e) whole in
    record { wide = wide; high = high; apart = apart; within = omega (arith, all, last) }

-- The fronts of pieces without tails are the pieces.
pub fronts_of_packed : {S : Type 0} (width pieces : ℕ) (source : List S) → piece_fronts width width pieces source ≡
    cut_rows width pieces source
fronts_of_packed width zero source = refl
fronts_of_packed width (suc pieces) source =
    rw (take-take width width source (omega arith), fronts_of_packed width pieces (drop width source)) refl

-- One entry for each pixel, and no tails.
pub rows_of_packed : {S : Type 0} (width pieces : ℕ) (source : List S) → map (λ (entries : List S). entries)
    (piece_fronts width width pieces source) ≡
    cut_rows width pieces source
rows_of_packed width pieces source = rw (map-id (piece_fronts width width pieces source))
    (fronts_of_packed width pieces source)
