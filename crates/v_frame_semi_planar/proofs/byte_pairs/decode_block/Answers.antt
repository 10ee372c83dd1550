-- The lanes are the pairs, and their bytes are the pixels.
use Rattle.std.proofs.Common.{◌≡◌, ◌/◌, ◌<◌, length, map, take, bit_and, refl, sym, ◌∙◌, ap, arith}
use Rattle.std.specs.Simd.Lanes.{number_l, digits_l}
use Rattle.std.proofs.lemmas.List.{take_all}
use Rattle.std.proofs.lemmas.Simd.{Each1-from_get_or}
use Rattle.v_frame.specs.Prelude.{pixels_of_bytes}
use Rattle.v_frame_semi_planar.specs.SemiPlanar.{shown_pixels}
use Rattle.v_frame_semi_planar.proofs.BytePairs.{bytes_by_turns, pixels_by_turns_of_bytes, pixels_of_each}
use Rattle.v_frame_semi_planar.proofs.byte_pairs.decode_block.Goals as goal

pub returns : goal.returns
returns g c =
    let form = g.T.Pixel.form in let bytes = c.args.bytes.now in
    let byte : form.size ≡ 1 = sym g.met.T.Pixel.bytes_of_form ∙ c.requires.byte in
    let lanes = digits_l 65536 16 (number_l 256 (take 32 bytes)) in
    let low = map (λ lane. bit_and lane 255) lanes in let high = map (λ lane. lane / 256) lanes in
    let turns = bytes_by_turns 16 bytes (omega (arith, c.requires.long))
    (Each1-from_get_or (λ b. b < 256) _ 0 (λ k h. (c.type_inv.bytes k).fits)) in
    let all : take 32 bytes ≡ bytes = take_all 32 bytes (omega (arith, c.requires.long)) in
    let first : c.write_pixels.new.row ≡ pixels_of_bytes form 16 low =
    c.write_pixels.ensures ∙ pixels_of_each form byte low in
    let second : c.write_pixels-2.new.row ≡ pixels_of_bytes form 16 high =
    c.write_pixels-2.ensures ∙ pixels_of_each form byte high in
    rw (first, second) (pixels_by_turns_of_bytes form byte low high refl ∙ ap (shown_pixels form 0 32) (turns ∙ all))
