-- The header that is written: its numbers are those of the caller, and its extensions are those of the text.
use Rattle.std.proofs.Common.{rules, arith}
use Rattle.std.proofs.lemmas.Grind.{common_steps}
use Rattle.v_frame_y4m_c.proofs.exports.v_frame_y4m_write_header.Goals as goal

pub returns-then-len-buffer-clause-short : goal.returns-then-len-buffer-clause-short
returns-then-len-buffer-clause-short c = λ _. (
  c.with_extensions-found.result,
  c.with_extensions-found.ensures c.args.header.now c.args.extensions.now c.in-Ok.ensures.found
      c.in-Ok-with_range.ensures.found,
  first_of (search rules, grind (arith, common_steps)),
  first_of (search rules, grind (arith, common_steps)),
)

pub returns-clause-written : goal.returns-clause-written
returns-clause-written c = λ _. (
  c.with_extensions-found.result,
  c.with_extensions-found.ensures c.args.header.now c.args.extensions.now c.in-Ok.ensures.found
      c.in-Ok-with_range.ensures.found,
  first_of (search rules, grind (arith, common_steps)),
  first_of (search rules, grind (arith, common_steps)),
)
