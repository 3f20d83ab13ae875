use Rattle.std.proofs.Common.{arith, length, sum_by}
use Rattle.std.proofs.lemmas.Bool.Decides.{nat_tests}
use Rattle.sect_once.specs.History.{entries_of}
use Rattle.sect_once.proofs.Pasts.{bytes_of}
use Rattle.sect_once.proofs.Rows.{heavy-size}
use Rattle.sect_once.proofs.past.Past.is_heavy.Goals as goal

pub returns : goal.returns
returns g c = let bytes = bytes_of g.O.Object.start g.O.Object.stepped g.O.Object.is_row (g.O.Object.state c.self.inside.object.value) (entries_of g.O.Object.entry_of c.self.inside.rows.texts) c.self.inside.places.keys c.self.inside.rows.texts c.self.invariant in rw (← c.self.view_is) (
  λ h. record { size = sum_by length c.self.inside.rows.texts; bytes = bytes; heavy = grind (arith, nat_tests, h, c.size.ensures) },
  λ a. let big = heavy-size g.O.Object.is_row g.met.O.Object.one_row (entries_of g.O.Object.entry_of c.self.inside.rows.texts) (sum_by length c.self.inside.rows.texts) bytes a in grind (arith, nat_tests, big, c.size.ensures),
)
