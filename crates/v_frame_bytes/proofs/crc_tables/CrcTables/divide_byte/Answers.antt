-- The byte is added to the lowest byte of the remainder.
use Rattle.std.proofs.Common.{◌/◌, sym, ap, ◌∙◌}
use Rattle.std.specs.Prelude.{bit_xor}
use Rattle.v_frame_bytes.proofs.CrcSteps.{byte_step}
use Rattle.v_frame_bytes.proofs.crc_tables.CrcTables.divide_byte.Goals as goal

pub returns : goal.returns
returns c =
    ap (bit_xor (c.args.rest / 256)) c.entry.ensures
    ∙ sym (byte_step c.args.rest c.args.byte c.ranges.byte.fits)
