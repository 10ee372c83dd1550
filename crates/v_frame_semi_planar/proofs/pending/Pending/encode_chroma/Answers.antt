-- The encoded pixels come before those that are left.
use Rattle.std.proofs.Common.{◌≡◌, ◌*◌, ◌<◌, length, take, refl, rules}
use Rattle.v_frame_semi_planar.specs.Interleaved.{interleaved}
use Rattle.v_frame_semi_planar.specs.SemiPlanar.{stored_bytes}
use Rattle.v_frame_semi_planar.proofs.Encoded.{chroma_encoded}
use Rattle.v_frame_semi_planar.proofs.pending.Pending.encode_chroma.Goals as goal

pub returns-clause-value : goal.returns-clause-value
returns-clause-value g c =
    let n = c.min-count.result in
    let us = c.args.self.now.first.now in
    let vs = c.args.self.now.second.now in
    let part = c.encode_pairs.new.bytes in
    let made : part ≡ stored_bytes g.T.Pixel.form c.args.unused (interleaved (take n us) (take n vs)) =
    rw (c.split_at.ensures.front, c.split_at-2.ensures.front) at c.encode_pairs.ensures in
    let long : length part ≡ 2 * c.BYTES-2.result * n = search rules in
    let some : 0 < n = search rules in
    chroma_encoded g.T.Pixel.form c.args.unused c.args.self.now _ n _ part _ c.requires.luma c.requires.rows
    c.requires.luma c.requires.rows refl refl c.split_at.ensures.back c.split_at-2.ensures.back some c.requires.some
    c.requires.some_second made long
