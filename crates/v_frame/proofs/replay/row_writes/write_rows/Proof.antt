-- `write_rows` writes each draw through an iterator over the rows of its plane.
use Rattle.v_frame_plane.proofs.rows_mut.RowsMut as of_walks
use Rattle.v_frame_plane.proofs.plane.Plane.rows_mut.Met as rows_mut_met
use Rattle.v_frame_plane.proofs.laws.held_rows_are_the_table.Met as dropped_met
use Rattle.v_frame.proofs.{ItemKinds.of_rows, WriteItems.items_written}
use Rattle.v_frame.proofs.{replay.row_writes.write_rows.Statement.statement}
use Rattle.v_frame.proofs.replay.row_writes.write_rows.Code as code
use Rattle.v_frame.proofs.replay as calls

pub write_rows_spec : {M : Type 1} → statement M
write_rows_spec 𝓤 𝓛 𝓜 𝓡 wired T laws copy clone dict bound = items_written 𝓛 𝓜 𝓡 T laws clone dict _ _ _ _ _ _ _ _ _ _ _
    _ _ _ of_rows _
    (rows_mut_met.met 𝓤 𝓛 𝓜 𝓡 (code.calls-v_frame_plane::plane::Plane::rows_mut 𝓡.env wired) T laws)
    (calls.draw.RowDrawDraw.side.Met.met 𝓤 𝓛 𝓜 𝓡 (code.calls-v_frame::replay::draw::RowDrawDraw::side 𝓡.env wired) T
    laws)
    (of_walks.next.Met.met 𝓤 𝓛 𝓜 𝓡 (code.calls-v_frame_plane::rows_mut::RowsMut::next 𝓡.env wired) T laws)
    (of_walks.next_back.Met.met 𝓤 𝓛 𝓜 𝓡 (code.calls-v_frame_plane::rows_mut::RowsMut::next_back 𝓡.env wired) T laws)
    (calls.row_writes.overwrite_by.Met.met 𝓤 𝓛 𝓜 𝓡 (code.calls-v_frame::replay::row_writes::overwrite_by 𝓡.env wired) T
    laws copy clone dict bound)
    (dropped_met.met 𝓤 𝓛 𝓜 𝓡 (code.calls-v_frame_plane::laws::held_rows_are_the_table 𝓡.env wired) T laws)
    (code.unfolded 𝓤 𝓛.H 𝓜 𝓡 wired (T, tt) dict)
