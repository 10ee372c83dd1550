-- One more write appends the bytes that it accepted.
use Rattle.std.proofs.Common.{◌-◌, length, take, drop, ap, arith, length-take, length-drop}
use Rattle.std.proofs.lemmas.List.{take_rest}
use Rattle.std.proofs.KnownBytes.{Appends-trans}
use Rattle.std.proofs.Math.Seq.{take-add}
use Rattle.v_frame_bytes.proofs.sending.send.Goals as goal

pub loop-written-preserved : goal.loop-written-preserved
loop-written-preserved g c =
    let text = c.args.bytes.now in
    let at = c.loop-written.written in
    let count = c.in-Ok.count in
    let before = c.loop-written.invariant in
    let did = c.in-Ok.ensures in
    let sent = Appends-trans _ _ _ (take at text) (take count (take (length text - at) (drop at text))) before.sent
    did.bytes in
    record {
      within = omega (arith, did.bound, length-take (length text - at) (drop at text), length-drop at text);
      sent = rw (take-add at count text) (rw (take_rest text at) at sent);
      nothing = λ none. absurd (omega (arith, ap length none, c.loop-written-test.true));
    }
