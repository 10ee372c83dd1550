-- The line begins like a header.
use Rattle.std.proofs.Common.{◌<◌, length, rules, arith}
use Rattle.std.proofs.lemmas.Grind.{common_steps}
use Rattle.v_frame_y4m.proofs.HeaderParts.{pieces_begin_part, header_found, header_refused}
use Rattle.v_frame_y4m.proofs.parsing.parse_header.Goals as goal

pub returns-clause-found : goal.returns-clause-found
returns-clause-found c =
    let some : 0 < length c.in_ok-pieces.pieces.items = search (rules, arith) in
    let begins = pieces_begin_part c.args.line.now c.in_ok-pieces.pieces.items c.deref.result.now c.index.result.now
    (search rules) some (search rules)
    (search rules) in
    header_found c.args.line.now _ begins c.header_of.result c.header_of.ensures.says c.header_of.ensures.size

pub returns-clause-refused : goal.returns-clause-refused
returns-clause-refused c =
    let some : 0 < length c.in_ok-pieces.pieces.items = search (rules, arith) in
    let begins = pieces_begin_part c.args.line.now c.in_ok-pieces.pieces.items c.deref.result.now c.index.result.now
    (search rules) some (search rules)
    (search rules) in
    header_refused c.args.line.now _ begins c.header_of.result c.header_of.ensures.error

pub index-requires : goal.index-requires
index-requires c = grind (arith, common_steps)

pub returns-then-is_empty-clause-refused : goal.returns-then-is_empty-clause-refused
returns-then-is_empty-clause-refused c = grind (arith, common_steps)
