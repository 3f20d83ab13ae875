use Rattle.std.proofs.Common.{arith}
use Rattle.sect_once.specs.History.{entries_of}
use Rattle.sect_once.proofs.Pasts.{as_many}
use Rattle.sect_once.proofs.past.Past.acted.Goals as goal

pub overflow_cast-result : goal.overflow_cast-result
overflow_cast-result g c = let many = as_many g.O.Object.start g.O.Object.stepped g.O.Object.is_row (g.O.Object.state c.self.inside.object.value) (entries_of g.O.Object.entry_of c.self.inside.rows.texts) c.self.inside.places.keys c.self.inside.rows.texts c.args.self.now c.self.invariant c.self.view_is in omega (arith, c.len.ensures, many.1)

pub returns : goal.returns
returns g c = let many = as_many g.O.Object.start g.O.Object.stepped g.O.Object.is_row (g.O.Object.state c.self.inside.object.value) (entries_of g.O.Object.entry_of c.self.inside.rows.texts) c.self.inside.places.keys c.self.inside.rows.texts c.args.self.now c.self.invariant c.self.view_is in omega (arith, c.len.ensures, many.0)
