-- One more entry is written, and there is memory for one fewer.
use Rattle.std.proofs.Common.{◌+◌, length, sym, ◌∙◌, ap, arith}
use Rattle.std.proofs.lemmas.List.{length_push}
use Rattle.v_frame_buffer.specs.Filling.{Filled}
use Rattle.v_frame_buffer.proofs.aligned.filling.Filling.push.Goals as goal

pub write_next-requires : goal.write_next-requires
write_next-requires g c =
    let room = ap (λ (f : Filled g.row.T.Denot). f.spare) c.self.view_is in
    (sym c.self.invariant.begins, c.self.invariant.items, omega (arith, c.requires, room))

pub invariant_of-self : goal.invariant_of-self
invariant_of-self g c =
    let wrote = c.write_next.ensures.items in
    let before = c.self.invariant in
    record {
      begins = wrote.0 ∙ before.begins;
      items = ap length wrote.1 ∙ length_push c.self.inside.cells.items c.args.entry ∙ ap (λ n. n + 1) before.items;
      room = omega (arith, before.room, c.write_next.ensures.spare);
      deed_begins = before.deed_begins;
      deed_len = before.deed_len;
      owner = before.owner;
    }
