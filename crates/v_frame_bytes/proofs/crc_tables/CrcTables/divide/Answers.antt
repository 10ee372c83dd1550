-- At the end no byte is left.
use Rattle.std.proofs.Common.{sym, ◌∙◌, arith}
use Rattle.std.specs.Prelude.{fold}
use Rattle.std.proofs.lemmas.List.{at_drop_all}
use Rattle.v_frame_bytes.specs.Crc.{crc_step}
use Rattle.v_frame_bytes.proofs.crc_tables.CrcTables.divide.Goals as goal

pub returns : goal.returns
returns c =
    let ahead = c.loop-ahead.ahead.now in
    sym (at_drop_all (fold crc_step c.loop-byte.left) ahead c.loop-byte.byte-index (omega arith))
    ∙ c.loop-byte.invariant
