-- The number of bytes is that of the frame in the layout, and the frame has their pixels.
use Rattle.std.proofs.Common.{◌≡◌, ◌∙◌, ◌*◌, ◌/◌, ap, length, refl, sym, ℕ}
use Rattle.std.specs.Prelude.{option_map}
use Rattle.v_frame.specs.Prelude.{tables_of}
use Rattle.v_frame_planar.specs.Planar.{size_of, sizes_of}
use Rattle.v_frame_semi_planar.specs.Format.{begins_with_v, unused_bits}
use Rattle.v_frame_semi_planar.specs.SemiPlanar.{semi_planar_pixels, shown_pixels, FillsLayout}
use Rattle.v_frame_semi_planar.proofs.CombinedLists.{quotient_is}
use Rattle.v_frame_semi_planar.proofs.Stored.{length-stored}
use Rattle.v_frame_streams.specs.Pictures.{tables_by_turns, Sizes}
use Rattle.v_frame_streams.proofs.Formatting.{has_layout}
use Rattle.v_frame_streams.proofs.LaidOut.{as_many_bytes, shown_again}
use Rattle.v_frame_streams.proofs.picture.show_layout.Goals as goal

pub show_semi_planar_bytes-requires : goal.show_semi_planar_bytes-requires
show_semi_planar_bytes-requires g c =
    let form = g.T.Pixel.form in
    let layout = c.args.layout in
    let frame = c.args.frame.now in
    let old = tables_of frame in
    let fits = c.requires.fits in
    let even = c.planes_are_even.ensures in
    let counted = as_many_bytes layout old.y even.y form old.u old.v even.u even.v (fits.u ∙ sym fits.v) in
    let fills : FillsLayout form layout frame c.args.bytes.now = record {
      layout = has_layout form.size form.size layout frame refl fits;
      long = c.requires.fills ∙ sym counted;
    } in (c.type_bounds.static-T, fills)

pub returns-clause-shown : goal.returns-clause-shown
returns-clause-shown g c =
    let form = g.T.Pixel.form in
    let layout = c.args.layout in
    let unused = unused_bits layout in
    let old = tables_of c.args.frame.now in
    let new = tables_of c.show_semi_planar_bytes.new.frame in
    let bytes = c.args.bytes.now in
    let fits = c.requires.fits in
    let before = c.planes_are_even.ensures in
    let even = c.planes_are_even-2.ensures in
    let was : option_map size_of old.u ≡ option_map size_of old.v = fits.u ∙ sym fits.v in
    let kept : sizes_of new ≡ sizes_of old = c.show_semi_planar_bytes.ensures.sizes in
    let same : option_map size_of new.u ≡ option_map size_of new.v =
    ap (λ (s : Sizes). s.1.0) kept ∙ was ∙ sym (ap (λ (s : Sizes). s.1.1) kept) in
    let pixels = semi_planar_pixels layout old in
    let form_size = form.size in
    let counted = as_many_bytes layout old.y before.y form old.u old.v before.u before.v was in
    let whole : length bytes ≡ form_size * length pixels =
    c.requires.fills ∙ sym counted ∙ length-stored form unused pixels in
    let quotient : length bytes / form_size ≡ length pixels =
    quotient_is form_size (length pixels) (length bytes) g.met.T.Pixel.byte_or_two.0 whole in
    let shows = λ (n : ℕ). tables_by_turns (begins_with_v layout) (sizes_of new) (shown_pixels form unused n bytes) in
    let by_read : shows (length bytes / form_size) ≡ new =
    ap shows quotient
    ∙ ap (λ p. tables_by_turns (begins_with_v layout) (sizes_of new) p) (sym c.show_semi_planar_bytes.ensures.pixels)
    ∙ shown_again layout new.y even.y new.u new.v even.u even.v same in
    sym by_read
    ∙ ap (λ (s : Sizes). tables_by_turns (begins_with_v layout) s (shown_pixels form unused (length bytes / form_size) bytes)) kept
