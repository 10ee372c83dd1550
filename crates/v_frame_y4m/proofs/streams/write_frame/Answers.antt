-- The written bytes are a beginning of the line and the planar bytes.
use Rattle.std.proofs.Common.{arith, rules}
use Rattle.std.proofs.lemmas.Grind.{common_steps}
use Rattle.std.specs.Prelude.{codes}
use Rattle.v_frame.specs.Prelude.{tables_of}
use Rattle.v_frame_planar.specs.Planar.{planar_bytes}
use Rattle.v_frame_y4m.proofs.WritingStops.{stops_in_line, stops_behind}
use Rattle.v_frame_y4m.proofs.streams.write_frame.Goals as goal

pub returns-in_err-write_all-clause-error : goal.returns-in_err-write_all-clause-error
returns-in_err-write_all-clause-error g c =
    let stopped = stops_in_line (codes "FRAME\n") (planar_bytes g.T.Pixel.form
    (tables_of c.args.frame.now)) g.W.Write.contents c.args.writer.now c.args.writer.now c.write_all.new.self
    c.in_err-write_all.field-0.0 (search rules) in
    search rules

pub returns-in_err-write_frame-clause-error : goal.returns-in_err-write_frame-clause-error
returns-in_err-write_frame-clause-error g c =
    let stopped = stops_behind (codes "FRAME\n") (planar_bytes g.T.Pixel.form
    (tables_of c.args.frame.now)) g.W.Write.contents c.args.writer.now c.write_all.new.self c.write_frame.new.writer
    (search rules)
    (search rules) c.in_err-write_frame.field-0.0 (search rules) in
    search rules

pub returns-clause-ok : goal.returns-clause-ok
returns-clause-ok g c = grind (arith, common_steps)
