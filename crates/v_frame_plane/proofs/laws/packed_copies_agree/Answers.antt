-- Both copies leave equal tables, borders and geometries, which determine the buffer.
use Rattle.std.proofs.Common.{ℕ, ◌≡◌, ◌*◌, ◌≤◌, length, ap, ◌∙◌, sym, arith}
use Rattle.v_frame_raster.specs.Geometry.{alloc_size_of, usize_max}
use Rattle.v_frame_raster.specs.Table.{width_of, height_of}
use Rattle.v_frame_raster.specs.Raster.{table_of}
use Rattle.v_frame_plane.specs.Copy.{Copies, packed_copy}
use Rattle.v_frame_raster.proofs.tables.Sizes.{pixels_within}
use Rattle.v_frame_raster.proofs.tables.Determined.{determines_buffer}
use Rattle.v_frame_plane.proofs.copies.ByteLaws.{one_byte_copies}
use Rattle.v_frame_plane.proofs.laws.packed_copies_agree.Goals as goal

pub returns : goal.returns
returns c =
    let old = c.args.left.now in
    let other = c.args.right.now in
    let source = c.args.src.now in
    let alike : old ≡ other = c.requires in
    let left = c.copy_from_slice-of_pixels.new.self in
    let right = c.copy_from_u8_slice-of_bytes.new.self in
    let pixels : Copies old left c.copy_from_slice-of_pixels.result (packed_copy (table_of old) source) =
    c.copy_from_slice-of_pixels.ensures.copied in
    let whole_left : length left.buffer ≡ alloc_size_of left.geometry = ap length (sym c.data-left.ensures.value) ∙
    c.data-left.ensures.whole in
    let whole_right : length right.buffer ≡ alloc_size_of right.geometry = ap length (sym c.data-right.ensures.value) ∙
    c.data-right.ensures.whole in
    let size : alloc_size_of old.geometry ≤ usize_max = omega
    (arith, c.data-left.ensures.whole, ap alloc_size_of pixels.geometry) in
    let counted : width_of (table_of old) * height_of (table_of old) ≤ usize_max = omega
    (arith, pixels_within old, size) in
    let bytes : Copies other right c.copy_from_u8_slice-of_bytes.result (packed_copy (table_of other) source) =
    rw (← one_byte_copies (table_of other) source (rw (← alike) counted)) c.copy_from_u8_slice-of_bytes.ensures.copied
    in
    let same = rw (← alike) at bytes in
    record {
      pixels = pixels;
      bytes = bytes;
      planes = determines_buffer ℕ left right whole_left whole_right (pixels.geometry ∙ sym same.geometry)
          (pixels.table ∙ sym same.table)
          (pixels.border ∙ sym same.border);
    }
