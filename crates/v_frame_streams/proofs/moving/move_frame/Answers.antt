-- A frame is its line, its front and the rest.
use Rattle.std.proofs.Common.{ℕ, ◌≡◌, ◌≤◌, ◌+◌, ◌++◌, ◌∙◌, Bool, true, List, Option, ap, drop, take, length, length-take-le, arith, subst, sym}
use Rattle.std.specs.Io.KnownBytes.{Appends}
use lib.Seq.{take-append_seam}
use Rattle.v_frame_streams.specs.Copies.{MovesNext}
use Rattle.v_frame_streams.specs.Sources.{bytes_left, Stream}
use Rattle.v_frame_streams.specs.Streams.{ReadsNext}
use Rattle.v_frame_streams.proofs.Reading.{moved_of_parts}
use Rattle.v_frame_streams.proofs.moving.move_frame.Goals as goal

pub returns-clause-moved : goal.returns-clause-moved
returns-clause-moved g c =
    let left = bytes_left g.R.Read.remaining c.args.source.now in
    let mid = bytes_left g.R.Read.remaining c.begin_frame.new.self in
    let from = c.args.source.now.container in
    let to = c.args.sink.now.container in
    let count = c.args.source.now.frame_len in
    let front = c.begin_frame.new.front in
    let first = c.in_ok-begin_frame.ensures in
    let rest = c.in_ok-move_rest.ensures.moved in
    let begun = subst (λ (more : Bool). ReadsNext left mid from front more) c.if-not-branch.false first.read in
    let block = c.args.block.now in
    let n = c.min-front.result in
    let fits : n ≤ length block = omega (arith, c.min-front.ensures) in
    let long : length front ≡ n = first.size ∙ length-take-le n block fits in
    let same_len = ap (λ (s : Stream). s.frame_len) first.same in
    let whole : length front + length rest.0 ≡ count = omega
    (arith, long, rest.3, same_len, c.min-front.ensures, c.frame_len.ensures.value) in
    let sent : take n (front ++ drop n block) ≡ front = subst (λ (k : ℕ). take k (front ++ drop n block) ≡ front) long
    (take-append_seam front (drop n block)) in
    let line = c.in_ok-begin_frame-2.ensures in
    let opened = g.W.Write.contents c.begin_frame-2.new.self.writer.inner in
    let now = g.W.Write.contents c.write_part.new.self.writer.inner in
    let written = subst (λ (b : List ℕ). Appends opened now b) sent c.in_ok-write_part.ensures.ok in
    let moved = moved_of_parts count left mid _ front rest.0 whole rest.1 from to _ opened now _ begun line.ok written
    rest.2 in
    let has = subst (λ (h : Option (List ℕ)). MovesNext from count left (bytes_left g.R.Read.remaining
    c.move_rest.new.source) (g.W.Write.contents c.args.sink.now.writer.inner) h to true) (sym c.end_frame-2.ensures.written)
    moved in
    subst (λ (l : Option (List ℕ)). MovesNext from count left l (g.W.Write.contents c.args.sink.now.writer.inner)
    (g.W.Write.contents c.end_frame-2.new.self.writer.inner) to true) (sym c.end_frame.ensures.left) has
