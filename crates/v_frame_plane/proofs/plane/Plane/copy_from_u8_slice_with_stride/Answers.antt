-- The stride is checked first, and then the length.
use Rattle.std.proofs.Common.{◌≡◌, ◌*◌, ◌<◌, ◌≤◌, length, map, min, Ok, Err, refl, ap, ◌∙◌, sym, arith}
use Rattle.std.proofs.Math.Nat.{mul-pos}
use Rattle.v_frame_raster.specs.Geometry.{usize_max}
use Rattle.v_frame_raster.specs.Raster.{Raster, raster, table_of}
use Rattle.v_frame_raster.specs.StridedRows.{strided_table}
use Rattle.v_frame_raster.specs.Table.{Table}
use Rattle.v_frame_raster.specs.Pixel.{pixels_of_bytes}
use Rattle.v_frame_plane.specs.Copy.{Copies, strided_copy}
use Rattle.v_frame_plane.specs.Visible.{with_visible}
use Rattle.v_frame_plane.specs.declared.error.CopyError.TheVariants.{DataLength}
use Rattle.v_frame_plane.proofs.copies.ByteCopies.{asked_is_found, asked_is_other, asked_is_told, refused_by_stride}
use Rattle.v_frame_plane.proofs.copies.ByteCopies.{refused_by_length, accepted}
use Rattle.v_frame_raster.proofs.tables.BytesBack.{AreBytes}
use Rattle.v_frame_plane.proofs.copies.ByteLaws.{strided_bytes}
use Rattle.v_frame_raster.proofs.tables.Sources.{fronts_fit}
use Rattle.v_frame_plane.proofs.iterators.BegunPixels.{row_bytes}
use Rattle.v_frame_plane.proofs.plane.Plane.copy_from_u8_slice_with_stride.Goals as goal

pub overflow_mul-width : goal.overflow_mul-width
overflow_mul-width g c =
    rw (c.width-width.ensures.value, c.BYTES.ensures, g.met.T.Pixel.bytes_of_form)
    (record {
      fits = row_bytes c.self.inside.geometry _ c.width-width.ensures.valid.high c.self.invariant.fits
          g.met.T.Pixel.byte_or_two.1;
    })

pub returns-then-stride-width-clause-copied : goal.returns-then-stride-width-clause-copied
returns-then-stride-width-clause-copied g c =
    let form = g.T.Pixel.form in
    let p : Raster g.row.T.Denot = raster c.self.inside.geometry c.self.inside.buffer in
    let bytes = c.BYTES.ensures ∙ g.met.T.Pixel.bytes_of_form in
    let refused = refused_by_stride form p c.args.src.now c.args.stride c.width-width.result
    c.self.inside.geometry.height c.width-width.ensures.valid.high
    c.self.invariant.whole c.width-width.ensures.value refl (rw (← bytes) c.if-stride-width.true) in
    rw (← c.self.view_is) (record {
      answer = rw refused refl;
      table = rw refused refl;
      border = refl;
      geometry = refl;
      refused = refl;
    })

pub returns-then-ne-clause-copied : goal.returns-then-ne-clause-copied
returns-then-ne-clause-copied g c =
    let form = g.T.Pixel.form in
    let p : Raster g.row.T.Denot = raster c.self.inside.geometry c.self.inside.buffer in
    let product = c.args.stride * c.height.result in
    let found = length c.args.src.now in
    let asked = c.checked_mul-expected.result in
    let bytes = c.BYTES.ensures ∙ g.met.T.Pixel.bytes_of_form in
    let fits : c.width-width.result * form.size ≤ c.args.stride = rw (← bytes) c.if-stride-width.false in
    let other = asked_is_other asked product found c.checked_mul-expected.ensures (omega arith) (sym c.if-ne.ensures) in
    let told : c.unwrap_or.result ≡ min product usize_max = c.unwrap_or.ensures ∙ asked_is_told asked product
    c.checked_mul-expected.ensures in
    let refused = refused_by_length form p c.args.src.now c.args.stride c.width-width.result c.height.result
    c.width-width.ensures.valid.high
    c.self.invariant.whole c.width-width.ensures.value c.height.ensures.value fits other in
    rw (← c.self.view_is) (record {
      answer = rw refused (ap (λ n. Err (DataLength n found)) told);
      table = rw refused refl;
      border = refl;
      geometry = refl;
      refused = refl;
    })

pub returns : goal.returns
returns g c =
    let form = g.T.Pixel.form in let k = c.self.inside.geometry in let source = c.args.src.now in
    let old = c.args.self.now in let written = c.write_rows.ensures in let ys = c.write_rows.new.buffer in
    let size = c.BYTES.ensures ∙ g.met.T.Pixel.bytes_of_form in
    let size2 = c.BYTES-2.ensures ∙ g.met.T.Pixel.bytes_of_form in
    let wide = c.width-width.ensures in
    let fits : k.width * form.size ≤ c.args.stride = rw (← size, ← wide.value) c.if-stride-width.false in
    let same = asked_is_found c.checked_mul-expected.result (c.args.stride * c.height.result) (length source)
    c.checked_mul-expected.ensures (sym c.if-ne.ensures) in
    let table : Table g.row.T.Denot = strided_table form k.width k.height c.args.stride source in
    let done : strided_copy form (table_of old) source c.args.stride ≡ record { answer = Ok tt; table = table } =
    rw (← c.self.view_is) (accepted form (raster k c.self.inside.buffer) source c.args.stride k.width k.height
    wide.valid.high c.self.invariant.whole refl refl fits (same ∙ ap (λ n. c.args.stride * n) c.height.ensures.value)) in
    let read : map (pixels_of_bytes form c.visible_mut-entries.result.width) c.of_parts-source.result ≡ table =
    rw (
      c.visible_mut-entries.ensures.width,
      ← c.self.view_is,
      c.of_parts-source.ensures.value,
      wide.value,
      c.height-2.ensures.value,
      size2,
    ) refl in
    let border = c.visible_mut-entries.ensures.border ys written.rest in
    let copied : Copies old (with_visible old ys) (Ok tt) (strided_copy form (table_of old) source c.args.stride) =
    record {
      answer = rw done refl;
      table = rw done (c.visible_mut-entries.ensures.written ys written.rest.count ∙ written.table ∙ read);
      border = ap (λ b. b.1) border;
      geometry = ap (λ b. b.0) border;
      refused = tt;
    } in
    let bytes : AreBytes source = record { below = λ i. (c.type_inv.src i).fits } in
    record {
      copied = copied;
      source = strided_bytes form g.met.T.Pixel.value_of_pixel (table_of old) (table_of (with_visible old ys)) source
          bytes c.args.stride (Ok tt) copied.answer copied.table;
    }

pub of_parts-source-requires : goal.of_parts-source-requires
of_parts-source-requires g c =
    let valid = c.width-width.ensures.valid in
    let size = c.BYTES.ensures ∙ g.met.T.Pixel.bytes_of_form in
    let some : 0 < c.BYTES-2.result = rw (c.BYTES-2.ensures, g.met.T.Pixel.bytes_of_form) (g.met.T.Pixel.byte_or_two.0)
    in
    let wide : 0 < c.width-width.result = rw (c.width-width.ensures.value) valid.wide in
    let high : 0 < c.height-2.result = rw (c.height-2.ensures.value) valid.high in
    let counted = asked_is_found c.checked_mul-expected.result (c.args.stride * c.height.result)
    (length c.args.src.now) c.checked_mul-expected.ensures
    (sym c.if-ne.ensures) in
    let same : c.height.result ≡ c.height-2.result = c.height.ensures.value ∙ sym c.height-2.ensures.value in
    fronts_fit (c.width-width.result * c.BYTES-2.result) c.args.stride c.height-2.result (length c.args.src.now)
    (mul-pos wide some) high (rw (c.BYTES-2.ensures, ← c.BYTES.ensures) c.if-stride-width.false)
    (counted ∙ ap (λ n. c.args.stride * n) same)
