use Rattle.std.proofs.Common.{arith}
use Rattle.sect_once.proofs.Slots.{taken-le}
use Rattle.sect_once.proofs.places.Places.reserve.Goals as goal

pub table_of-requires-clause-room : goal.table_of-requires-clause-room
table_of-requires-clause-room c = omega (arith, c.as_slice.ensures.len, c.reserve.ensures.len, c.self.inside.keys.ok.0, c.self.inside.slots.ok.0, c.self.invariant.table.count, taken-le c.self.inside.slots.items, c.len-count.ensures, c.max-more.ensures)

pub returns-clause-room : goal.returns-clause-room
returns-clause-room c = omega (arith, c.in_ok-reserve.ensures.ok, c.reserve.new.self.ok.0, c.reserve.ensures.len, c.self.inside.keys.ok.0, c.self.inside.slots.ok.0, c.self.invariant.table.count, taken-le c.self.inside.slots.items, c.len-count.ensures, c.max-more.ensures, c.in_ok-self-inside.ensures.len)
