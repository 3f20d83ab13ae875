use Rattle.sect_clerk.proofs.Agreed.{tried_is_answered}
use Rattle.sect_clerk.proofs.tried.what_is_tried_is_answered.Goals as goal

pub returns : goal.returns
returns g c = tried_is_answered g.O.Object.start g.O.Object.stepped g.O.Object.is_row g.K.Keeper.rows g.K.Keeper.faults
