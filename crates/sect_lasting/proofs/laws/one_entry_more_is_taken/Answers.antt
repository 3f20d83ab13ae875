-- the law stands in the lemmas
use Rattle.sect_lasting.proofs.Logs.{opens_to}
use Rattle.sect_lasting.proofs.laws.one_entry_more_is_taken.Goals as goal

pub returns : goal.returns
returns g c = opens_to g.O.Object.start g.O.Object.stepped g.O.Object.is_row g.K.Keeper.rows g.K.Keeper.faults g.met.O.Object.one_entry
