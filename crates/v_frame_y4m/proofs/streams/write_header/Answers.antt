-- The written bytes are a beginning of the line.
use Rattle.std.proofs.Common.{arith, ℕ, List, [], ◌∷◌, ◌++◌, ◌∙◌, subst}
use Rattle.std.proofs.lemmas.Grind.{common_steps}
use mathlib.Core.Logic.{inr}
use Rattle.v_frame_planar.specs.Counted.{StopsWriting}
use Rattle.v_frame_y4m.specs.Header.{header_line}
use Rattle.v_frame_y4m.specs.Streams.{MayStopWritingHeader}
use Rattle.v_frame_y4m.proofs.FrameStops.{handed_on}
use Rattle.v_frame_y4m.proofs.WritingStops.{stops_writing}
use Rattle.v_frame_y4m.proofs.streams.write_header.Goals as goal

pub returns-in_err-write_all-clause-error : goal.returns-in_err-write_all-clause-error
returns-in_err-write_all-clause-error g c =
    let contents = g.W.Write.contents in
    let old = c.args.writer.now in
    let new = c.write_all.new.self in
    let fault = c.in_err-write_all.field-0.0 in
    let bytes = header_line c.args.header.now ++ 10 ∷ [] in
    let all = c.as_slice.ensures.value ∙ c.in_ok-line.ensures in
    let stopped = subst (λ (b : List ℕ). StopsWriting contents old new b fault) all c.in_err-write_all.ensures.fault in
    handed_on (MayStopWritingHeader contents old new bytes) _ _ c.from_residual-in_err-write_all.ensures.1
    (inr (stops_writing contents old new bytes fault stopped))

pub returns-in_err-line-clause-error : goal.returns-in_err-line-clause-error
returns-in_err-line-clause-error g c = grind (arith, common_steps)
