-- Reading a frame fails after its line, or in its first bytes.
use Rattle.std.proofs.Common.{Bool, [], ap, arith, length-take-le, refl, rules, subst, sym, take}
use Rattle.std.proofs.lemmas.Result.{err_from_is_err_and}
use Rattle.v_frame_planar.specs.declared.error.PlanarError.TheVariants.{Truncated}
use Rattle.v_frame_y4m.specs.declared.error.Y4mError.TheVariants.{Planar}
use Rattle.v_frame_streams.specs.Errors.{StopsFrame, StopsInside}
use Rattle.v_frame_streams.specs.Sources.{unread_of, Stream}
use Rattle.v_frame_streams.specs.Streams.{ReadsLine}
use Rattle.v_frame_streams.specs.declared.error.Problem.{Problem}
use Rattle.v_frame_streams.specs.declared.error.Problem.TheVariants.{Stream as OfStream}
use Rattle.v_frame_streams.specs.declared.stream.Container.{Container}
use Rattle.v_frame_streams.specs.declared.stream.Container.TheVariants.{Y4m}
use Rattle.v_frame_streams.proofs.Breaking.{stops_in_frame}
use Rattle.v_frame_streams.proofs.source.Source.begin_frame.Goals as goal

pub returns-in_err-read_part-in-Y4m-clause-problem : goal.returns-in_err-read_part-in-Y4m-clause-problem
returns-in_err-read_part-in-Y4m-clause-problem g c =
    let start = unread_of g.R.Read.remaining c.args.self.now in
    let mid = unread_of g.R.Read.remaining c.read_line.new.self in
    let left = unread_of g.R.Read.remaining c.read_part.new.self in
    let count = c.args.self.now.frame_len in
    let first = c.in_ok-read_line-in-Y4m.ensures in
    let line = subst (λ (more : Bool). ReadsLine start.bytes mid.bytes more) c.if-not-branch.false first.read in
    let problem = c.in_err-read_part-in-Y4m.field-0.0.problem in
    let stops = subst (λ (s : Stream). StopsInside 0 mid left s.frame_len problem) first.same
    c.in_err-read_part-in-Y4m.ensures.problem in
    let p = err_from_is_err_and c.from_residual-in_err-read_part-in-Y4m.result
    c.from_residual-in_err-read_part-in-Y4m.ensures.1 in
    rw (p.1, p.2) (subst (λ (from : Container). StopsFrame from start left count problem) (sym c.in-Y4m.is)
    (stops_in_frame start left count mid first.uncounted Y4m line.0 [] (line.1, line.2, line.3) (λ raw. absurd (search (rules, raw)))
    line.4 problem stops))

pub returns-then-found-front-clause-problem : goal.returns-then-found-front-clause-problem
returns-then-found-front-clause-problem g c =
    let start = unread_of g.R.Read.remaining c.args.self.now in
    let left = unread_of g.R.Read.remaining c.fill.new.self in
    let count = c.args.self.now.frame_len in
    let front = c.fill.new.part in
    let found = c.in_ok-found-in-Raw.found in
    let filled = c.in_ok-found-in-Raw.ensures in
    subst (λ (p : Problem). StopsFrame c.args.self.now.container start left count p) (sym c.truncated.ensures.problem)
    (subst (λ (from : Container). StopsFrame from start left count (OfStream (Planar (Truncated c.fill.new.self.frame_len found))))
    (sym c.in-Raw.is) (
      ap (λ (s : Stream). s.frame_len) filled.same,
      omega (arith, c.if-found-front.true, filled.size, c.requires.within),
      λ _. omega (arith, c.if-found-eq0.false),
      ([], take found front),
      refl,
      sym (length-take-le found front filled.bound),
      filled.read,
      filled.at_end (omega (arith, c.if-found-front.true, filled.size)),
    ))
