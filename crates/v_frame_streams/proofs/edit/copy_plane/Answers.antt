-- The tables have the same size, and agree pixel by pixel.
use Rattle.std.proofs.Common.{◌≡◌, All, length, subst, arith}
use Rattle.v_frame.specs.Prelude.{table_of}
use Rattle.v_frame_streams.proofs.Copied.{agree_from_the_corner}
use Rattle.v_frame_streams.proofs.edit.copy_plane.Goals as goal

pub returns-clause-shown : goal.returns-clause-shown
returns-clause-shown g c =
    let copied = table_of c.copy_region.new.target in
    let source = table_of c.args.source.now in
    let wide : c.width-2.result ≡ c.width.result = grind arith in
    let high : length copied ≡ c.args.source.now.geometry.height = grind arith in
    let long : length copied ≡ length source = grind arith in
    let rows : All (λ row. length row ≡ c.width.result) copied = subst (λ w. All (λ row. length row ≡ w) copied) wide
    c.width-2.ensures.rows in
    c.tables_agree_by_pixels.ensures c.width.result copied source long rows c.width.ensures.rows
    (λ x y across down. agree_from_the_corner copied source c.args.source.now.geometry.width
    c.args.source.now.geometry.height c.copy_region.ensures.inside x y
    (omega (arith, across, c.width.ensures.value)) (omega (arith, down, high)))
