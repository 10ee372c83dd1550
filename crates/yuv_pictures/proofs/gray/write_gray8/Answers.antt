-- All rows are written, and the file is complete.
use Rattle.std.proofs.Common.{[], length, ap, ◌∙◌, arith}
use Rattle.std.proofs.lemmas.List.{length-map}
use Rattle.v_frame.specs.Prelude.{table_of}
use Rattle.v_frame_raster.proofs.tables.Sizes.{height_of_shown}
use Rattle.yuv_pictures.proofs.gray.write_gray8.Goals as goal

pub end-requires-clause-is_open : goal.end-requires-clause-is_open
end-requires-clause-is_open g c =
    (c.in-Ok.ensures.drawn (g.W.Write.contents c.args.out) [] c.in_ok-png.ensures.drawn).is_open

pub end-requires-clause-left : goal.end-requires-clause-left
end-requires-clause-left g c =
    let drawn = c.in-Ok.ensures.drawn (g.W.Write.contents c.args.out) [] c.in_ok-png.ensures.drawn in
    let high = ap (λ h. h.height) (c.in-Ok.ensures.header ∙ c.in_ok-png.ensures.header ∙ c.requires.header) in
    let count =
    ap (λ t. length t) (ap table_of c.as_plane_ref.ensures ∙ c.convert_depth.ensures.table)
    ∙ length-map (table_of c.args.plane.now) _ ∙ height_of_shown c.args.plane.now in
    omega (arith, drawn.left, high, count)

pub returns-in-Ok-clause-file : goal.returns-in-Ok-clause-file
returns-in-Ok-clause-file g c =
    let start = g.W.Write.contents c.args.out in
    let drawn = c.in-Ok.ensures.drawn start [] c.in_ok-png.ensures.drawn in
    let is = c.in-Ok.ensures.header ∙ c.in_ok-png.ensures.header in
    let shown = ap table_of c.as_plane_ref.ensures ∙ c.convert_depth.ensures.table in
    rw (is, shown) at (c.end.ensures.file start _ drawn)
