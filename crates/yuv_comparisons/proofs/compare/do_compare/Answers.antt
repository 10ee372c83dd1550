-- The report is about the two streams that were opened.
use Rattle.std.proofs.Common.{◌∙◌, refl}
use Rattle.v_frame_streams.specs.Prelude.{bytes_left}
use Rattle.yuv_system.specs.InputFiles.{bytes_of_input}
use Rattle.yuv_comparisons.proofs.compare.do_compare.Goals as goal

pub returns : goal.returns
returns g c =
    let remaining = bytes_of_input g.F.Read.remaining g.I.Read.remaining in
    let first = c.in_ok-one.one in
    let second = c.in_ok-other.other in
    let found = c.in_ok-_out.found in
    record {
      left = bytes_left (λ lent. remaining lent.now) first;
      first = first;
      opened = record {
        file = c.in_ok-file.file;
        named = c.in_ok-file.ensures.standard;
        opened = c.in_ok-one.ensures.opened;
        are_left = refl;
      };
      other_left = bytes_left (λ lent. remaining lent.now) second;
      second = second;
      behind = c.begin.new.system.input;
      taken = λ dash. c.in_ok-one.ensures.input ∙ c.in_ok-file.ensures.taken dash;
      kept = λ named. c.in_ok-one.ensures.input ∙ c.open_file.ensures.kept named;
      other_opened = record {
        file = c.in_ok-other_file.other_file;
        named = c.in_ok-other_file.ensures.standard;
        opened = c.in_ok-other.ensures.opened;
        are_left = refl;
      };
      rest = bytes_left (λ lent. remaining lent.now) c.report_comparison.new.first;
      other_rest = bytes_left (λ lent. remaining lent.now) c.report_comparison.new.second;
      found = found;
      some = c.in_ok-_out.ensures.some;
      bytes = c.in_ok-_out.ensures.bytes;
      words = c.in_ok-_out.ensures.words;
      same = c.comparison_status.ensures.same;
      never = c.comparison_status.ensures.never;
    }
