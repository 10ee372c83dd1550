-- Chroma is not larger than luma, so it can be laid out if luma can.
use Rattle.std.proofs.Common.{◌≡◌, Some, option_map, ◌∙◌, ap, rules}
use Rattle.v_frame.specs.Prelude.{ratio_of}
use Rattle.v_frame_planar.specs.Video.{covering_geometry}
use Rattle.v_frame_planar.proofs.Covers.{cover_fits, cover_is_geometry, laid_out}
use Rattle.v_frame_planar.proofs.video.chroma_geometry.Goals as goal

pub returns-clause-fits : goal.returns-clause-fits
returns-clause-fits c = λ x here.
    let is : x ≡ covering_geometry c.args.luma (c.get-ratio_x.result, c.get-ratio_y.result) = search (rules, here) in
    rw is (cover_fits c.args.luma _ _ (search rules) (search rules) c.requires)

pub returns-clause-value : goal.returns-clause-value
returns-clause-value c =
    let luma = c.args.luma in
    let x = c.get-ratio_x in
    let y = c.get-ratio_y in
    let known : Some (x.result, y.result) ≡ ratio_of c.args.subsampling = rw (x.ensures.value, y.ensures.value)
    c.in_ok-ratio_x.ensures in
    let cover = cover_is_geometry luma _ _ x.ensures.nonzero y.ensures.nonzero c.width.ensures.valid in
    laid_out c.new.result _ _ c.new.ensures (cc) cover ∙ ap (option_map (covering_geometry luma)) known
