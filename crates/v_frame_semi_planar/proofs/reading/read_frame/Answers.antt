-- The number of bytes read is that of the frame, and the frame has their pixels.
use Rattle.std.proofs.Common.{ℕ, ◌≡◌, ◌*◌, ◌/◌, List, length, sym, ◌∙◌, ap, rules, arith}
use Rattle.std.specs.Io.KnownBytes.{Consumes}
use Rattle.v_frame.specs.Prelude.{tables_of}
use Rattle.v_frame_semi_planar.specs.Format.{unused_bits}
use Rattle.v_frame_semi_planar.specs.SemiPlanar.{semi_planar_bytes, semi_planar_pixels, shown_pixels}
use Rattle.v_frame_semi_planar.proofs.CombinedLists.{quotient_is}
use Rattle.v_frame_semi_planar.proofs.Stored.{length-stored, length-shown}
use Rattle.v_frame_semi_planar.proofs.reading.read_frame.Goals as goal

pub returns-clause-as_many : goal.returns-clause-as_many
returns-clause-as_many g c =
    let form = g.T.Pixel.form in let unused = unused_bits c.args.format in
    let old = semi_planar_pixels c.args.format (tables_of c.args.frame.now) in
    let new = semi_planar_pixels c.args.format (tables_of c.show_semi_planar_bytes.new.frame) in
    let count : length new ≡ length old =
    ap length c.show_semi_planar_bytes.ensures.pixels ∙ length-shown form unused (length old) _ in
    length-stored form unused new ∙ ap (λ n. form.size * n) count ∙ sym (length-stored form unused old)

pub returns-clause-read : goal.returns-clause-read
returns-clause-read g c =
    let form = g.T.Pixel.form in let unused = unused_bits c.args.format in
    let old = semi_planar_pixels c.args.format (tables_of c.args.frame.now) in
    let new = semi_planar_pixels c.args.format (tables_of c.show_semi_planar_bytes.new.frame) in
    let bytes : List ℕ = c.in-Some.bytes.items in
    let count : length new ≡ length old =
    ap length c.show_semi_planar_bytes.ensures.pixels ∙ length-shown form unused (length old) _ in
    let as_many = length-stored form unused new ∙ ap (λ n. form.size * n) count ∙ sym (length-stored form unused old) in
    let read : Consumes (g.R.Read.remaining c.args.reader.now.inner) (g.R.Read.remaining c.read_bytes.new.reader.inner)
    bytes × (length bytes ≡ c.in_ok-count.count) = search rules in
    let whole : length bytes ≡ length (semi_planar_bytes form c.args.format (tables_of c.args.frame.now)) =
    omega (arith, read.1, c.in_ok-count.ensures.value, c.in_ok-bytes.ensures.few) in
    let quotient : length bytes / form.size ≡ length old =
    quotient_is form.size (length old) (length bytes) g.met.T.Pixel.byte_or_two.0 (whole ∙ length-stored form unused old) in (
      bytes,
      read.0,
      whole ∙ sym as_many,
      c.show_semi_planar_bytes.ensures.pixels
          ∙ rw c.as_slice.ensures.value (ap (λ n. shown_pixels form unused n bytes) (sym quotient)),
    )
