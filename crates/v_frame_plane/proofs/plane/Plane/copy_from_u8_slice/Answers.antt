-- The stride of a row is the width of the table in bytes.
use Rattle.std.proofs.Common.{◌≡◌, ◌*◌, ◌∙◌, refl, sym, subst}
use Rattle.v_frame_raster.specs.Table.{width_of}
use Rattle.v_frame_raster.specs.Raster.{Raster, raster, table_of}
use Rattle.v_frame_plane.specs.Copy.{Copies, strided_copy, packed_byte_copy}
use Rattle.v_frame_raster.proofs.tables.BytesBack.{AreBytes}
use Rattle.v_frame_plane.proofs.copies.ByteLaws.{packed_bytes}
use Rattle.v_frame_raster.proofs.tables.Sizes.{width_of_shown}
use Rattle.v_frame_plane.proofs.iterators.BegunPixels.{row_bytes}
use Rattle.v_frame_plane.proofs.plane.Plane.copy_from_u8_slice.Goals as goal

pub overflow_mul-stride : goal.overflow_mul-stride
overflow_mul-stride g c =
    rw (c.width.ensures.value, c.BYTES.ensures, g.met.T.Pixel.bytes_of_form)
    (record {
      fits = row_bytes c.self.inside.geometry _ c.width.ensures.valid.high c.self.invariant.fits
          g.met.T.Pixel.byte_or_two.1;
    })

pub returns : goal.returns
returns g c =
    let form = g.T.Pixel.form in
    let source = c.args.src.now in
    let p : Raster g.row.T.Denot = raster c.self.inside.geometry c.self.inside.buffer in
    let old : Raster g.row.T.Denot = c.args.self.now in
    let new : Raster g.row.T.Denot = c.copy_from_u8_slice_with_stride.new.self in
    let wide : c.width.result ≡ width_of (table_of old) =
    rw (← c.self.view_is) (c.width.ensures.value ∙ sym
    (width_of_shown p c.width.ensures.valid.high c.self.invariant.whole)) in
    let row : c.width.result * c.BYTES.result ≡ width_of (table_of old) * form.size = rw
    (wide, c.BYTES.ensures, g.met.T.Pixel.bytes_of_form) refl in
    let copied : Copies old new c.copy_from_u8_slice_with_stride.result (packed_byte_copy form (table_of old) source) =
    subst (λ stride. Copies old new c.copy_from_u8_slice_with_stride.result
    (strided_copy form (table_of old) source stride)) row
    c.copy_from_u8_slice_with_stride.ensures.copied in
    let bytes : AreBytes source = record { below = λ i. (c.type_inv.src i).fits } in
    record {
      copied = copied;
      source = packed_bytes form g.met.T.Pixel.value_of_pixel (table_of old) (table_of new) source bytes
          c.copy_from_u8_slice_with_stride.result copied.answer
          copied.table;
    }
