-- The lines are about the stream that was opened.
use Rattle.std.proofs.Common.{refl, subst}
use Rattle.v_frame_streams.specs.Prelude.{bytes_left, sizes_in}
use Rattle.yuv_system.specs.InputFiles.{bytes_of_input}
use Rattle.v_frame_y4m.specs.Color.{depth_of}
use Rattle.v_frame_y4m.specs.Frames.{pixel_bytes}
use Rattle.yuv_facts.specs.Checksums.{SumsFrom}
use Rattle.yuv_facts.proofs.sum.do_sum.Goals as goal

pub returns : goal.returns
returns g c =
    let remaining = bytes_of_input g.F.Read.remaining g.I.Read.remaining in
    let contents = g.O.Write.contents in
    let source = c.in_ok-source.source in
    let left = bytes_left (λ lent. remaining lent.now) source in
    let rest = bytes_left (λ lent. remaining lent.now) c.sum_stream.new.source in
    let has = contents c.sum_stream.new.out in
    let output = c.in_ok-source.ensures.output in
    let found = c.in_ok-found.found in (
      refl,
      record {
        left = left;
        source = source;
        opened = record {
          file = c.in_ok-file.file;
          named = c.in_ok-file.ensures.standard;
          opened = c.in_ok-source.ensures.opened;
          are_left = refl;
        };
        rest = rest;
        found = found;
        sums = subst (λ (o : g.row.O.Denot). SumsFrom source.container source.frame_len left rest (contents o) has
            c.args.call.now.options (pixel_bytes (depth_of source.header.color)) (sizes_in source.header) found) output
            c.in_ok-found.ensures;
      },
    )
