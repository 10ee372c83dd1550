-- The means of the values are the values of the means.
use Rattle.std.proofs.Common.{◌∙◌, ap, map}
use Rattle.v_frame.specs.Prelude.{halved, one_byte}
use Rattle.v_frame_convert.proofs.PairMeans.{means_of_values}
use Rattle.v_frame_convert.proofs.byte_pairs.halve_block.Goals as goal

pub returns : goal.returns
returns g c =
    let form = g.T.Pixel.form in
    c.write_pixels.ensures
    ∙ ap (map form.pixel_of) (c.means_of_pairs.ensures ∙ ap (λ xs. halved one_byte xs xs) c.write_values.ensures)
    ∙ means_of_values form 16 c.args.source.now c.requires.pairs
