-- One more block follows the written bytes, or writing stops inside it.
use Rattle.std.proofs.Common.{◌++◌, [], take, sym, ◌∙◌, append_assoc, rules, arith}
use Rattle.std.proofs.lemmas.Grind.{common_steps}
use Rattle.std.proofs.KnownBytes.{Appends-nil, Appends-trans}
use Rattle.v_frame.specs.Prelude.{bytes_of_pixels, tables_of}
use Rattle.v_frame_planar.specs.Pending.{pixels_pending}
use Rattle.v_frame_planar.proofs.Blocks.{bytes_of_planar_pixels}
use Rattle.v_frame_planar.proofs.Stops.{stops_later}
use Rattle.v_frame_planar.proofs.writing.write_frame.Goals as goal

pub loop-pending-init : goal.loop-pending-init
loop-pending-init g c =
    let all = sym (bytes_of_planar_pixels g.T.Pixel.form (tables_of c.args.frame.now)) in
    record {
      sent = ([], Appends-nil _, rw c.new-pending.ensures all);
      failures = search rules;
      last_failure = search
          rules;
    }

pub loop-pending-preserved : goal.loop-pending-preserved
loop-pending-preserved g c =
    let before = c.loop-pending.invariant in
    let front = before.sent.0 in
    let part = take c.fill-filled.result c.fill-filled.new.block in
    let done = c.in_ok-write_all.ensures in
    let sent = Appends-trans _ _ _ front part before.sent.1 (search rules) in
    record {
      sent = (front ++ part, sent, before.sent.2 ∙ rw (c.fill-filled.ensures.bytes, append_assoc front part _));
      failures = done.uncounted ∙ before.failures;
      last_failure = done.cause ∙ before.last_failure;
    }

pub returns-in_err-write_all-clause-error : goal.returns-in_err-write_all-clause-error
returns-in_err-write_all-clause-error g c =
    let before = c.loop-pending.invariant in
    let front = before.sent.0 in
    let part = take c.fill-filled.result c.fill-filled.new.block in
    let rest = bytes_of_pixels g.T.Pixel.form (pixels_pending c.fill-filled.new.self) in
    let stopped = stops_later front part rest g.W.Write.contents c.args.writer.now c.loop-pending.writer
    c.write_all.new.self before.sent.1 before.failures
    c.in_err-write_all.field-0.0 (search rules) in
    rw (before.sent.2, c.fill-filled.ensures.bytes) (search rules)

pub loop-pending-smaller : goal.loop-pending-smaller
loop-pending-smaller g c = grind (arith, common_steps)
