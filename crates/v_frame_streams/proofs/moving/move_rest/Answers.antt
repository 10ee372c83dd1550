-- One more block of the frame was read and written.
use Rattle.std.proofs.Common.{ℕ, ◌≡◌, ◌≤◌, ◌++◌, ◌∙◌, List, drop, take, length, length-append, length-drop, length-take-le, arith, subst}
use Rattle.std.proofs.KnownBytes.{Appends-trans, Consumes-trans}
use Rattle.std.specs.Io.KnownBytes.{Appends}
use lib.Seq.{take-append_seam}
use Rattle.v_frame_streams.proofs.moving.move_rest.Goals as goal

pub loop-done-preserved : goal.loop-done-preserved
loop-done-preserved g c =
    let before = c.loop-done.invariant in
    let done = c.in_ok-read_part.ensures in
    let sent = c.in_ok-write_part.ensures in
    let block = c.loop-done.block in
    let count = c.min-count.result in
    let part = c.read_part.new.part in
    let behind = drop count block in
    let now = g.W.Write.contents c.loop-done.sink.writer.inner in
    let has = g.W.Write.contents c.write_part.new.self.writer.inner in
    let fits : count ≤ length block = omega (arith, c.min-count.ensures, before.size) in
    let long : length part ≡ count = done.size ∙ length-take-le count block fits in
    let front : take count (part ++ behind) ≡ part = subst (λ (n : ℕ). take n (part ++ behind) ≡ part) long
    (take-append_seam part behind) in
    record {
      from = omega (arith, before.from);
      within = omega (arith, c.min-count.ensures, c.frame_len-frame_len.ensures.value, before.within);
      moved = (
        before.moved.0 ++ part,
        Consumes-trans _ _ _ _ _ before.moved.1 done.read,
        Appends-trans _ _ _ _ _ before.moved.2 (subst (λ (b : List ℕ). Appends now has b) front sent.ok),
        length-append before.moved.0 part ∙ omega (arith, before.moved.3, long, before.from),
      );
      same = done.same ∙ before.same;
      to = sent.container ∙ before.to;
      read = done.frames ∙ before.read;
      written = sent.frames ∙ before.written;
      size = length-append part behind ∙ omega (arith, long, length-drop count block, fits, before.size);
    }
