-- The numbers of the header that was found are the given numbers.
use Rattle.std.proofs.Common.{arith, refl, ap, ◌∙◌}
use Rattle.std.proofs.lemmas.Grind.{common_steps}
use Rattle.v_frame_y4m.specs.declared.header.StreamHeader.{StreamHeader}
use Rattle.v_frame_slices.specs.Formats.{format_number}
use Rattle.v_frame_y4m_c.specs.Header.{siting_number}
use Rattle.v_frame_y4m_c.proofs.HeadersFound.{found_by_its_own, same_numbers}
use Rattle.v_frame_y4m_c.proofs.header.Header.stream_header.Goals as goal

pub returns-clause-found : goal.returns-clause-found
returns-clause-found c =
    let has = c.in-Some-color_of.ensures.found in
    let format = ap format_number has.0 ∙ c.in-Some-format_of_number.ensures.inverse in
    let found : StreamHeader = record {
      width = c.args.self.now.width;
      height = c.args.self.now.height;
      frame_rate = c.in-Some.frame_rate;
      interlacing = c.in-Some-interlacing_numbered.interlacing;
      pixel_aspect = c.in-Some-ratio_numbered.pixel_aspect;
      color = c.in-Some-color_of.color;
      extensions = c.into.result;
    } in
    let siting = ap siting_number has.1.1 ∙ c.in-Some-siting_numbered.ensures in record {
      numbers = same_numbers c.args.self.now found refl refl c.in-Some.ensures c.in-Some-ratio_numbered.ensures format
          has.1.0 siting c.in-Some-interlacing_numbered.ensures (grind (arith, common_steps));
      writable = grind (arith, common_steps);
      color = found_by_its_own c.in-Some-format_of_number.format c.args.self.now.bit_depth c.in-Some-siting_numbered.siting
          c.in-Some-color_of.color (grind (arith, common_steps)) has.0 has.1.0 has.1.1;
      extensions = grind (arith, common_steps);
    }
