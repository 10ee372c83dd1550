-- The pixels are those of the visible rectangle, and each has at most two bytes.
use Rattle.std.proofs.Common.{◌≡◌, ◌*◌, refl, arith}
use Rattle.v_frame_raster.specs.Table.{row_major}
use Rattle.v_frame_raster.specs.Raster.{Raster, raster, table_of}
use Rattle.v_frame_plane.proofs.iterators.BegunPixels.{length-bytes_of_pixels, few_bytes}
use Rattle.v_frame_plane.proofs.iterators.BegunRows.{visible_pixels, visible_few}
use Rattle.v_frame_raster.proofs.tables.Sizes.{width_of_shown, height_of_shown}
use Rattle.v_frame_plane.proofs.plane_ref.PlaneRef.byte_len.Goals as goal

pub overflow_mul-result : goal.overflow_mul-result
overflow_mul-result g c =
    let form = g.T.Pixel.form in
    let p : Raster g.row.T.Denot = raster c.self.inside.geometry c.self.inside.buffer.now in
    let few = few_bytes form (row_major (table_of p)) g.met.T.Pixel.byte_or_two.1 (visible_few p c.self.invariant) in
    rw (
      c.visible_size.ensures.value,
      c.BYTES.ensures,
      g.met.T.Pixel.bytes_of_form,
      ← visible_pixels p
          c.self.invariant,
    ) (omega arith)

pub returns : goal.returns
returns g c =
    let form = g.T.Pixel.form in
    let p : Raster g.row.T.Denot = raster c.self.inside.geometry c.self.inside.buffer.now in
    let pixels = row_major (table_of p) in
    let count : c.visible_size.result * c.BYTES.result ≡ p.geometry.width * p.geometry.height * form.size =
    rw (c.visible_size.ensures.value, c.BYTES.ensures, g.met.T.Pixel.bytes_of_form) refl in
    let shown = visible_pixels p c.self.invariant in
    let wide = width_of_shown p c.visible_size.ensures.valid.high c.self.invariant.whole in
    rw (← c.self.view_is, count) (record {
      value = refl;
      bytes = rw (length-bytes_of_pixels form pixels, shown) refl;
      table = rw (wide, height_of_shown p) refl;
      bound = rw (← shown) (few_bytes form pixels g.met.T.Pixel.byte_or_two.1 (visible_few p c.self.invariant));
    })
