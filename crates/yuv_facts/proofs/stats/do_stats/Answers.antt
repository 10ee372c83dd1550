-- The values are those of the stream that was opened.
use Rattle.std.proofs.Common.{◌^◌, refl, subst}
use Rattle.v_frame.specs.Prelude.{one_byte, two_bytes}
use Rattle.v_frame_streams.specs.Prelude.{bytes_left, sizes_in}
use Rattle.yuv_system.specs.InputFiles.{bytes_of_input}
use Rattle.v_frame_y4m.specs.Color.{depth_of}
use Rattle.yuv_system.specs.Headers.{used_range}
use Rattle.yuv_facts.specs.Statistics.{ReportsValues}
use Rattle.yuv_facts.proofs.stats.do_stats.Goals as goal

pub returns : goal.returns
returns g c =
    let remaining = bytes_of_input g.F.Read.remaining g.I.Read.remaining in
    let contents = g.O.Write.contents in
    let source = c.in_ok-source.source in
    let left = bytes_left (λ lent. remaining lent.now) source in
    let rest = bytes_left (λ lent. remaining lent.now) c.report_values.new.source in
    let has = contents c.report_values.new.out in
    let output = c.in_ok-source.ensures.output in
    let found = c.in_ok-found.found in (
      refl,
      record {
        left = left;
        source = source;
        opened = record {
          file = c.in_ok-file.file;
          named = c.in_ok-file.ensures.standard;
          opened = c.in_ok-source.ensures.opened;
          are_left = refl;
        };
        rest = rest;
        found = found;
        bytes = λ eight. subst (λ (o : g.row.O.Denot). ReportsValues one_byte (256 ^ 1) source.container source.frame_len
            source.layout (sizes_in source.header) left rest (contents o) has c.args.call.now.options
            (used_range c.args.call.now.options.range source.header) (depth_of source.header.color) found) output (c.in_ok-found.ensures.bytes eight);
        words = λ more. subst (λ (o : g.row.O.Denot). ReportsValues two_bytes (256 ^ 2) source.container source.frame_len
            source.layout (sizes_in source.header) left rest (contents o) has c.args.call.now.options
            (used_range c.args.call.now.options.range source.header) (depth_of source.header.color) found) output (c.in_ok-found.ensures.words more);
      },
    )
