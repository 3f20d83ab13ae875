-- the law stands in the lemmas
use Rattle.sect_lasting.proofs.Logs.{answers_follow}
use Rattle.sect_lasting.proofs.laws.what_is_answered_follows.Goals as goal

pub returns : goal.returns
returns g c = answers_follow g.O.Object.start g.O.Object.stepped g.O.Object.is_row g.O.Object.may_ask g.K.Keeper.rows g.K.Keeper.faults g.met.O.Object.one_row g.met.O.Object.next_has_row
