use Rattle.sect_once.proofs.Reopening.{reopened}
use Rattle.sect_once.proofs.desk.Desk.open.Goals as goal

pub returns-clause-reopens : goal.returns-clause-reopens
returns-clause-reopens g c = reopened g.O.Object.start g.O.Object.stepped g.O.Object.is_row g.K.Keeper.rows g.K.Keeper.faults g.met.O.Object.one_entry c.args.keeper c.replayed.result c.replayed.ensures
