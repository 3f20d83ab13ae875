-- A reply's text stands between two quotes as it is.
use Rattle.std.proofs.Common.{codes, decimal}
use Rattle.sect_wire.proofs.Plain.{stands_behind}
use Rattle.sect_wire.proofs.answer.print_parts.Goals as goal

pub returns-clause-text : goal.returns-clause-text
returns-clause-text c =
    stands_behind c.append.result c.append.new.into.items c.print_reply.new.into.items c.print_place.new.into.items c.args.into.now.items (codes "{\"place\":") (decimal c.args.place)
    (codes ",\"reply\":") c.args.reply.now c.append.ensures.text c.in_ok-print_reply.ensures.text c.in_ok-print_place.ensures.text
