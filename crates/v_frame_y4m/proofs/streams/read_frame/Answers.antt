-- The bytes after the line in front of a frame, and the position at which reading them fails.
use Rattle.std.proofs.Common.{arith, [], length, subst}
use Rattle.std.proofs.lemmas.Grind.{common_steps}
use Rattle.v_frame.specs.Prelude.{tables_of}
use Rattle.v_frame_planar.specs.Planar.{planar_bytes}
use Rattle.v_frame_y4m.specs.Streams.{MayStopInFrame, ReadsFrame}
use Rattle.v_frame_y4m.proofs.FrameStops.{after_line, bytes_stop, handed_on}
use Rattle.v_frame_y4m.proofs.streams.read_frame.Goals as goal

pub returns-in_err-more-clause-error : goal.returns-in_err-more-clause-error
returns-in_err-more-clause-error g c =
    let n = length (planar_bytes g.T.Pixel.form (tables_of c.args.frame.now)) in
    let stops = MayStopInFrame g.R.Read.remaining c.args.reader.now c.read_frame_line.new.reader n in
    handed_on stops _ c.in_err-more.field-0.0 c.from_residual.ensures.1 (c.in_err-more.ensures.error n)

pub returns-clause-read : goal.returns-clause-read
returns-clause-read g c =
    let remaining = g.R.Read.remaining in
    let old = c.args.reader.now in
    let mid = c.read_frame_line.new.reader in
    let taken = subst (ReadsFrame remaining old mid []) c.if-not-more.false c.in_ok-more.ensures.read in
    let all = after_line remaining old mid c.read_planar.new.reader taken.0 taken.3 _ c.in_ok-read_planar.ensures.read
    in
    (taken.0, taken.1, taken.2, all, taken.4)

pub returns-in_err-read_planar-clause-error : goal.returns-in_err-read_planar-clause-error
returns-in_err-read_planar-clause-error g c =
    let remaining = g.R.Read.remaining in
    let old = c.args.reader.now in
    let mid = c.read_frame_line.new.reader in
    let new = c.read_planar.new.reader in
    let taken = subst (ReadsFrame remaining old mid []) c.if-not-more.false c.in_ok-more.ensures.read in
    let n = length (planar_bytes g.T.Pixel.form (tables_of c.args.frame.now)) in
    let error = c.in_err-read_planar.field-0.0 in
    let stopped = bytes_stop remaining old mid new taken.0 taken.3 n taken.1 taken.2 taken.4
    c.in_ok-more.ensures.uncounted error
    c.in_err-read_planar.ensures.error in
    handed_on (MayStopInFrame remaining old new n) _ error c.from_residual-in_err-read_planar.ensures.1 stopped

pub returns-then-not-more-clause-read : goal.returns-then-not-more-clause-read
returns-then-not-more-clause-read g c = grind (arith, common_steps)

pub returns-clause-borders : goal.returns-clause-borders
returns-clause-borders g c = grind (arith, common_steps)

pub returns-clause-sizes : goal.returns-clause-sizes
returns-clause-sizes g c = grind (arith, common_steps)

pub returns-then-not-more-clause-borders : goal.returns-then-not-more-clause-borders
returns-then-not-more-clause-borders g c = grind (arith, common_steps)

pub returns-in_err-read_planar-clause-borders : goal.returns-in_err-read_planar-clause-borders
returns-in_err-read_planar-clause-borders g c = grind (arith, common_steps)

pub returns-in_err-read_planar-clause-sizes : goal.returns-in_err-read_planar-clause-sizes
returns-in_err-read_planar-clause-sizes g c = grind (arith, common_steps)

pub returns-then-not-more-clause-sizes : goal.returns-then-not-more-clause-sizes
returns-then-not-more-clause-sizes g c = grind (arith, common_steps)

pub returns-clause-at_end : goal.returns-clause-at_end
returns-clause-at_end g c = grind (arith, common_steps)

pub returns-in_err-more-clause-borders : goal.returns-in_err-more-clause-borders
returns-in_err-more-clause-borders g c = grind (arith, common_steps)

pub returns-in_err-more-clause-sizes : goal.returns-in_err-more-clause-sizes
returns-in_err-more-clause-sizes g c = grind (arith, common_steps)
