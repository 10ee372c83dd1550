-- The target plane holds the converted source plane, or the neutral value.
use Rattle.std.proofs.Common.{◌≡◌, ◌<◌, length, replicate, Some, sym, ◌∙◌, ap, arith}
use Rattle.std.proofs.lemmas.List.{length-replicate}
use Rattle.v_frame.specs.Prelude.{table_of}
use Rattle.v_frame_raster.proofs.tables.Lists.{same_by_slice_get}
use Rattle.v_frame_raster.proofs.tables.Sizes.{height_of_shown}
use Rattle.v_frame_raster.proofs.tables.ListItems.{slice_get-replicate}
use Rattle.v_frame_convert.proofs.frame.convert_chroma.Goals as goal

pub returns-in-Some-source-clause-table : goal.returns-in-Some-source-clause-table
returns-in-Some-source-clause-table g c =
    rw (c.in-Some.is, c.in-Some-source.is, ← c.as_plane_ref.ensures) (ap Some c.resample.ensures.table)

pub returns-in-None-clause-table : goal.returns-in-None-clause-table
returns-in-None-clause-table g c =
    let plane = c.fill.new.plane in
    let w = c.in-Some.target.geometry.width in let h = c.in-Some.target.geometry.height in
    let row = replicate w c.middle.result in
    let count : length (table_of plane) ≡ h =
    height_of_shown plane ∙ ap (λ both. both.0.height) c.fill.ensures.border in
    let shown : table_of plane ≡ replicate h row =
    same_by_slice_get (table_of plane) (replicate h row) (count ∙ sym (length-replicate h row)) (λ y high.
    let low : y < h = omega (arith, high, count) in
    c.fill.ensures.rows y low ∙ sym (slice_get-replicate h y row low)) in
    rw (c.in-Some.is, c.in-None.is)
    (ap Some (shown ∙ ap (λ pixel. replicate h (replicate w pixel)) c.middle.ensures))
