use Rattle.sect_once.specs.History.{entries_of}
use Rattle.sect_once.proofs.Pasts.{new_if_none, place_if_found}
use Rattle.sect_once.proofs.past.Past.place_of.Goals as goal

pub returns-clause-found : goal.returns-clause-found
returns-clause-found g c = place_if_found g.O.Object.start g.O.Object.stepped g.O.Object.is_row (g.O.Object.state c.self.inside.object.value) (entries_of g.O.Object.entry_of c.self.inside.rows.texts) c.self.inside.places.keys c.self.inside.rows.texts c.args.self.now c.self.invariant c.self.view_is
    c.args.id.now c.key_of.result c.key_of.ensures.key c.key_of.ensures.small c.find.result c.find.ensures

pub returns-clause-none : goal.returns-clause-none
returns-clause-none g c = new_if_none g.O.Object.start g.O.Object.stepped g.O.Object.is_row (g.O.Object.state c.self.inside.object.value) (entries_of g.O.Object.entry_of c.self.inside.rows.texts) c.self.inside.places.keys c.self.inside.rows.texts c.args.self.now c.self.invariant c.self.view_is
    c.args.id.now c.key_of.result c.key_of.ensures.key c.find.result c.find.ensures
