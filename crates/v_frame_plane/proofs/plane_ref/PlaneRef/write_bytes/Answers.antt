-- The rows of bytes have no gaps between them, so they make up the list.
use Rattle.std.proofs.Common.{ℕ, ◌≡◌, ◌*◌, ◌<◌, sym, ◌∙◌, ap, arith}
use Rattle.std.proofs.Math.Nat.{mul_assoc, mul_comm, mul-lt-mul_of_pos_right}
use Rattle.v_frame_raster.specs.Raster.{Raster, table_of}
use Rattle.v_frame_raster.specs.Table.{row_major}
use Rattle.v_frame_raster.proofs.tables.PackedRows.{packed_rows, packed_fit, joined_bytes}
use Rattle.v_frame_plane.proofs.plane_ref.PlaneRef.write_bytes.Goals as goal

-- The number of bytes is the number of bytes of a row times the number of rows.
by_rows : (bytes width height size w h s : ℕ) → bytes ≡ width * height * size → w ≡ width → h ≡ height → s ≡ size
    → bytes ≡ s * w * h
by_rows bytes width height size w h s is wide high sized =
    rw (wide, high, sized) (is ∙ mul_comm (width * height) size ∙ sym (mul_assoc size width height))

pub encode_rows-requires-clause-fit : goal.encode_rows-requires-clause-fit
encode_rows-requires-clause-fit g c = λ κs within.
    let bytes_of_form = c.BYTES.ensures ∙ g.met.T.Pixel.bytes_of_form in
    let wide : 0 < c.width.result = omega (arith, c.width.ensures.value, c.width.ensures.valid.wide) in
    let high : 0 < c.height.result = omega (arith, c.height.ensures.value, c.width.ensures.valid.high) in
    let some : 0 < c.BYTES.result = omega (arith, bytes_of_form, g.met.T.Pixel.byte_or_two.0) in
    let row : 0 < c.BYTES.result * c.width.result = omega (arith, mul-lt-mul_of_pos_right some wide) in
    let count = by_rows _ _ _ _ c.width.result c.height.result c.BYTES.result
    (c.requires ∙ sym c.byte_len-fits.ensures.bytes ∙ c.byte_len-fits.ensures.value)
    (c.width.ensures.value ∙ ap (λ (r : Raster g.row.T.Denot). r.geometry.width) c.self.view_is)
    (c.height.ensures.value ∙ ap (λ (r : Raster g.row.T.Denot). r.geometry.height) c.self.view_is)
    bytes_of_form in
    rw count (packed_fit (c.BYTES.result * c.width.result) c.height.result row high)

pub returns : goal.returns
returns g c =
    let form = g.T.Pixel.form in
    let width = c.BYTES.result * c.width.result in
    let count = by_rows _ _ _ _ c.width.result c.height.result c.BYTES.result
    (c.requires ∙ sym c.byte_len-fits.ensures.bytes ∙ c.byte_len-fits.ensures.value)
    (c.width.ensures.value ∙ ap (λ (r : Raster g.row.T.Denot). r.geometry.width) c.self.view_is)
    (c.height.ensures.value ∙ ap (λ (r : Raster g.row.T.Denot). r.geometry.height) c.self.view_is)
    (c.BYTES.ensures ∙ g.met.T.Pixel.bytes_of_form) in
    sym (packed_rows width c.height.result c.encode_rows.new.buffer (c.encode_rows.ensures.rest.count ∙ count))
    ∙ ap row_major c.encode_rows.ensures.table
    ∙ rw c.as_rows_ref.ensures.value (joined_bytes form (table_of c.args.self.now))
