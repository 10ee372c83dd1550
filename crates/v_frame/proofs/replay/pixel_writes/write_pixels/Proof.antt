-- `write_pixels` writes each draw through an iterator over the pixels of its plane.
use Rattle.v_frame_plane.proofs.pixels_mut.PixelsMut as of_walks
use Rattle.v_frame_plane.proofs.plane.Plane.pixels_mut.Met as pixels_mut_met
use Rattle.v_frame_plane.proofs.laws.dropped_pixels_keep_their_values.Met as dropped_met
use Rattle.v_frame.proofs.{ItemKinds.of_pixels, WriteItems.items_written}
use Rattle.v_frame.proofs.{replay.pixel_writes.write_pixels.Statement.statement}
use Rattle.v_frame.proofs.replay.pixel_writes.write_pixels.Code as code
use Rattle.v_frame.proofs.replay as calls

pub write_pixels_spec : {M : Type 1} → statement M
write_pixels_spec 𝓤 𝓛 𝓜 𝓡 wired T laws copy clone dict bound = items_written 𝓛 𝓜 𝓡 T laws clone dict _ _ _ _ _ _ _ _ _ _
    _ _ _ _ of_pixels _
    (pixels_mut_met.met 𝓤 𝓛 𝓜 𝓡 (code.calls-v_frame_plane::plane::Plane::pixels_mut 𝓡.env wired) T laws)
    (calls.draw.PixelDrawDraw.side.Met.met 𝓤 𝓛 𝓜 𝓡 (code.calls-v_frame::replay::draw::PixelDrawDraw::side 𝓡.env wired)
    T laws)
    (of_walks.next.Met.met 𝓤 𝓛 𝓜 𝓡 (code.calls-v_frame_plane::pixels_mut::PixelsMut::next 𝓡.env wired) T laws)
    (of_walks.next_back.Met.met 𝓤 𝓛 𝓜 𝓡 (code.calls-v_frame_plane::pixels_mut::PixelsMut::next_back 𝓡.env wired) T laws)
    (calls.pixel_writes.replace_by.Met.met 𝓤 𝓛 𝓜 𝓡 (code.calls-v_frame::replay::pixel_writes::replace_by 𝓡.env wired) T
    laws copy clone dict bound)
    (dropped_met.met 𝓤 𝓛 𝓜 𝓡 (code.calls-v_frame_plane::laws::dropped_pixels_keep_their_values 𝓡.env wired) T laws)
    (code.unfolded 𝓤 𝓛.H 𝓜 𝓡 wired (T, tt) dict)
