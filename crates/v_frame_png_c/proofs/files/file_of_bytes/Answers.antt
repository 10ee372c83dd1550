-- The file was empty when writing began.
use Rattle.v_frame_png_c.proofs.WholeFile.{whole_file}
use Rattle.v_frame_png_c.proofs.files.file_of_bytes.Goals as goal

pub returns : goal.returns
returns c =
    let file = c.in_ok-file.ensures.file in
    rw c.into_bytes.ensures (whole_file c.args.header c.args.rows.now _ _ file.0 c.new.ensures file.1 file.2)
