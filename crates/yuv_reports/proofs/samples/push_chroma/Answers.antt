-- The checksums of U and V follow one another.
use Rattle.std.specs.String.{string_bytes}
use Rattle.yuv_reports.specs.Samples.{checksum_word}
use Rattle.yuv_reports.proofs.Parts.{two_parts}
use Rattle.yuv_reports.proofs.samples.push_chroma.Goals as goal

pub returns-in_ok-push_checksum-in-Some : goal.returns-in_ok-push_checksum-in-Some
returns-in_ok-push_checksum-in-Some c =
    let sums = c.in-Some.sums in
    rw c.in-Some.is (two_parts c.push_checksum-in-Some.result (string_bytes c.args.text.now) (checksum_word sums.0)
    (checksum_word sums.1) (string_bytes c.push_checksum.new.text) (string_bytes c.push_checksum-in-Some.new.text)
    c.in_ok-push_checksum-in-Some.ensures c.push_checksum-in-Some.ensures)
