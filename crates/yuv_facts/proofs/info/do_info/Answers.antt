-- The report is about the stream that was opened.
use Rattle.std.proofs.Common.{refl, subst}
use Rattle.std.specs.Io.KnownBytes.{Appends}
use Rattle.v_frame_streams.specs.Prelude.{bytes_left}
use Rattle.yuv_system.specs.InputFiles.{bytes_of_input}
use Rattle.yuv_facts.specs.Facts.{stream_facts}
use Rattle.yuv_facts.specs.Info.{ReportsStream}
use Rattle.yuv_facts.proofs.info.do_info.Goals as goal

pub returns : goal.returns
returns g c =
    let remaining = bytes_of_input g.F.Read.remaining g.I.Read.remaining in
    let contents = g.O.Write.contents in
    let source = c.in_ok-source.source in
    let left = bytes_left (λ lent. remaining lent.now) source in
    let rest = bytes_left (λ lent. remaining lent.now) c.report_stream.new.source in
    let has = contents c.report_stream.new.out in
    let output = c.in_ok-source.ensures.output in (
      refl,
      record {
        left = left;
        source = source;
        opened = record {
          file = c.in_ok-file.file;
          named = c.in_ok-file.ensures.standard;
          opened = c.in_ok-source.ensures.opened;
          are_left = refl;
        };
        rest = rest;
        len = c.len-len.result;
        header = λ asked. subst (λ (o : g.row.O.Denot). Appends (contents o) has
            (stream_facts source.header source.frame_len c.len-len.result)) output (c.in_ok-report_stream.ensures.header asked);
        counted = λ asked. subst (λ (o : g.row.O.Denot). ReportsStream source.container source.header source.frame_len
            c.len-len.result left rest (contents o) has) output (c.in_ok-report_stream.ensures.counted asked);
      },
    )
