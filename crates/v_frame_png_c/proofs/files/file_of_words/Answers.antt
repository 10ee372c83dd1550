-- The file was empty when writing began. All rows are written, and the file is complete.
use Rattle.std.proofs.Common.{[], map, ◌∙◌}
use Rattle.v_frame_png.specs.Prelude.{big_endian}
use Rattle.v_frame_png_c.proofs.WholeFile.{whole_file}
use Rattle.v_frame_png_c.proofs.files.file_of_words.Goals as goal

pub returns : goal.returns
returns c =
    let rows = map big_endian c.args.rows.now in
    let drawn = c.in_ok-write_rows_u16.ensures.drawn _ [] c.in_ok-png.ensures.drawn in
    let is = c.write_rows_u16.ensures.header ∙ c.in_ok-png.ensures.header in
    let file = rw is at (c.in_ok-finish.ensures.file _ rows drawn) in
    rw (c.into_bytes.ensures, c.into_inner.ensures) (whole_file c.args.header rows _ _ file.0 c.new.ensures file.1 file.2)
