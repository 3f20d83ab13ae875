-- The object says it.
use Rattle.sect_serve.proofs.serving.an_entry_has_one_row.Goals as goal

pub returns : goal.returns
returns g c = g.met.O.Object.one_row
