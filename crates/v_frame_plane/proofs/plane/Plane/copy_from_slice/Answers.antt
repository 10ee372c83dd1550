-- The outcome of the copy depends on the sizes of the plane, which are those of its table.
use Rattle.std.proofs.Common.{◌≡◌, List, map, Ok, refl, ap, ◌∙◌}
use Rattle.v_frame_raster.specs.Table.{row_major, cut_rows}
use Rattle.v_frame_raster.specs.Raster.{Raster, raster, table_of}
use Rattle.v_frame_plane.specs.Copy.{packed_copy}
use Rattle.v_frame_plane.specs.Visible.{with_visible}
use Rattle.v_frame_plane.proofs.copies.CopyLemmas.{copy_refused, copy_accepted}
use Rattle.v_frame_raster.proofs.tables.CutRows.{row_major-cut_rows}
use Rattle.v_frame_raster.proofs.tables.Sources.{rows_of_packed}
use Rattle.v_frame_plane.proofs.plane.Plane.copy_from_slice.Goals as goal

pub returns-then-src-expected-clause-copied : goal.returns-then-src-expected-clause-copied
returns-then-src-expected-clause-copied g c =
    let p : Raster g.row.T.Denot = raster c.self.inside.geometry c.self.inside.buffer in
    let size = c.visible_size-expected.ensures in
    let refused = copy_refused p c.args.src.now c.visible_size-expected.result size.valid.high c.self.invariant.whole
    size.value c.if-src-expected.true in
    rw (← c.self.view_is) (record {
      answer = rw refused refl;
      table = rw refused refl;
      border = refl;
      geometry = refl;
      refused = refl;
    })

pub returns : goal.returns
returns g c =
    let k = c.self.inside.geometry in let source = c.args.src.now in let size = c.visible_size-expected.ensures in
    let old = c.args.self.now in let written = c.write_rows.ensures in let ys = c.write_rows.new.buffer in
    let accepted : packed_copy (table_of old) source ≡ record { answer = Ok tt; table = cut_rows k.width k.height source } =
    rw (← c.self.view_is) (copy_accepted (raster k c.self.inside.buffer) source c.visible_size-expected.result
    size.valid.high c.self.invariant.whole size.value c.if-src-expected.false) in
    let packed : map (λ (row : List g.row.T.Denot). row) c.of_parts-source.result ≡ cut_rows k.width k.height source =
    rw (c.of_parts-source.ensures.value, c.width.ensures.value, c.height.ensures.value, c.width-2.ensures.value)
    (rows_of_packed k.width k.height source) in
    let rows : table_of (with_visible old ys) ≡ cut_rows k.width k.height source =
    c.visible_mut-entries.ensures.written ys written.rest.count ∙ written.table ∙ packed in
    let border = c.visible_mut-entries.ensures.border ys written.rest in
    record {
      copied = record {
        answer = rw accepted refl;
        table = rw accepted rows;
        border = ap (λ b. b.1) border;
        geometry = ap (λ b. b.0) border;
        refused = tt;
      };
      source = ap row_major rows ∙ row_major-cut_rows k.width k.height source (c.if-src-expected.false ∙ size.value);
    }
