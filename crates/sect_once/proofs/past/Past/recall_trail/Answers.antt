use Rattle.sect_once.specs.History.{entries_of}
use Rattle.sect_once.proofs.Pasts.{trail_from}
use Rattle.sect_once.proofs.past.Past.recall_trail.Goals as goal

pub returns : goal.returns
returns g c = trail_from g.O.Object.start g.O.Object.stepped g.O.Object.is_row (g.O.Object.state c.self.inside.object.value) (entries_of g.O.Object.entry_of c.self.inside.rows.texts) c.self.inside.places.keys c.self.inside.rows.texts c.args.self.now c.self.view_is c.self.invariant
