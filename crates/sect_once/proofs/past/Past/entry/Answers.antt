use Rattle.std.proofs.Common.{◌≡◌, Some, arith, slice_get}
use Rattle.std.proofs.lemmas.Result.{IfOk-weaker}
use Rattle.sect_once.specs.History.{entries_of}
use Rattle.sect_once.proofs.Pasts.{as_many, read_at}
use Rattle.sect_once.proofs.Rows.{zip-get}
use Rattle.sect_once.proofs.past.Past.entry.Goals as goal

pub get-requires : goal.get-requires
get-requires g c = let many = as_many g.O.Object.start g.O.Object.stepped g.O.Object.is_row (g.O.Object.state c.self.inside.object.value) (entries_of g.O.Object.entry_of c.self.inside.rows.texts) c.self.inside.places.keys c.self.inside.rows.texts c.args.self.now c.self.invariant c.self.view_is in omega (arith, c.requires, many.0)

pub entry_in-requires : goal.entry_in-requires
entry_in-requires g c = let here = zip-get g.O.Object.is_row c.args.place (entries_of g.O.Object.entry_of c.self.inside.rows.texts) c.self.inside.rows.texts c.get.result.now c.self.invariant.are_rows c.get.ensures in (here.0, here.2)

pub returns : goal.returns
returns g c = IfOk-weaker c.entry_in.result (λ e. g.O.Object.is_row e c.get.result.now) (λ e. slice_get c.args.self.now.entries c.args.place ≡ Some e)
    (λ e written. read_at g.O.Object.start g.O.Object.stepped g.O.Object.is_row g.met.O.Object.one_entry (g.O.Object.state c.self.inside.object.value) (entries_of g.O.Object.entry_of c.self.inside.rows.texts) c.self.inside.places.keys c.self.inside.rows.texts c.args.self.now c.self.invariant c.self.view_is c.args.place c.get.result.now e c.get.ensures written) c.entry_in.ensures
