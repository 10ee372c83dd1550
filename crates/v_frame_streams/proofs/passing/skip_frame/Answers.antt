-- A frame is its front and the rest.
use Rattle.std.proofs.Common.{◌≡◌, ◌≤◌, ◌<◌, ◌+◌, ◌∙◌, Bool, true, List, ℕ, Option, ap, length, length-take-le, arith, subst, sym}
use Rattle.std.proofs.lemmas.Result.{err_from_is_err_and}
use Rattle.v_frame_streams.specs.Errors.{StopsInside}
use Rattle.v_frame_streams.specs.Sources.{bytes_left, unread_of, Stream}
use Rattle.v_frame_streams.specs.Streams.{ReadsNext, ReadsWhole}
use Rattle.v_frame_streams.proofs.Breaking.{stops_in_frame}
use Rattle.v_frame_streams.proofs.Reading.{whole_of_parts}
use Rattle.v_frame_streams.proofs.passing.skip_frame.Goals as goal

pub returns-clause-read : goal.returns-clause-read
returns-clause-read g c =
    let left = bytes_left g.R.Read.remaining c.args.source.now in
    let mid = bytes_left g.R.Read.remaining c.begin_frame.new.self in
    let from = c.args.source.now.container in
    let count = c.args.source.now.frame_len in
    let front = c.begin_frame.new.front in
    let first = c.in_ok-begin_frame.ensures in
    let rest = c.in_ok-skip_rest.ensures.read in
    let begun = subst (λ (more : Bool). ReadsNext left mid from front more) c.if-not-branch.false first.read in
    let block = c.args.block.now in
    let fits : c.min-front.result ≤ length block = omega (arith, c.min-front.ensures) in
    let long : length front ≡ c.min-front.result = first.size ∙ length-take-le c.min-front.result block fits in
    let same_len = ap (λ (s : Stream). s.frame_len) first.same in
    let whole : length front + length rest.0 ≡ count = omega
    (arith, long, rest.2, same_len, c.min-front.ensures, c.frame_len.ensures.value) in
    subst (λ (l : Option (List ℕ)). ReadsWhole left l from count true) (sym c.end_frame.ensures.left)
    (whole_of_parts count left mid _ front rest.0 whole rest.1 from begun)

-- After the front, the stream ended or a read failed.
pub returns-in_err-skip_rest-clause-problem : goal.returns-in_err-skip_rest-clause-problem
returns-in_err-skip_rest-clause-problem g c =
    let start = unread_of g.R.Read.remaining c.args.source.now in
    let mid = unread_of g.R.Read.remaining c.begin_frame.new.self in
    let left = unread_of g.R.Read.remaining c.skip_rest.new.source in
    let from = c.args.source.now.container in
    let count = c.args.source.now.frame_len in
    let front = c.begin_frame.new.front in
    let first = c.in_ok-begin_frame.ensures in
    let begun = subst (λ (more : Bool). ReadsNext start.bytes mid.bytes from front more) c.if-not-branch.false first.read in
    let block = c.args.block.now in
    let fits : c.min-front.result ≤ length block = omega (arith, c.min-front.ensures) in
    let long : length front ≡ c.min-front.result = first.size ∙ length-take-le c.min-front.result block fits in
    let some : 0 < length front = omega
    (arith, long, c.min-front.ensures, c.frame_len.ensures.value, c.frame_len.ensures.some, c.requires) in
    let problem = c.in_err-skip_rest.field-0.0.problem in
    let stops = subst (λ (s : Stream). StopsInside c.min-front.result mid left s.frame_len problem) first.same
    c.in_err-skip_rest.ensures.problem in
    let p = err_from_is_err_and c.from_residual-in_err-skip_rest.result
    c.from_residual-in_err-skip_rest.ensures.1 in
    rw (p.1, p.2) (stops_in_frame start left count mid first.uncounted from begun.0 front begun.1 (λ _. some) begun.2 problem
    (subst (λ (n : ℕ). StopsInside n mid left count problem) (sym long) stops))
