use Rattle.sect_once.proofs.Openings.{IsReplayed}
use Rattle.sect_once.proofs.past.Past.replay.Given as goal

abbrev pub invariant-loop-at : goal.invariant-loop-at
invariant-loop-at g l = IsReplayed g.O.Object.start g.O.Object.stepped g.O.Object.is_row (g.K.Keeper.rows l.fn.keeper) (g.K.Keeper.rows l.keeper) (g.K.Keeper.faults l.fn.keeper) (g.K.Keeper.faults l.keeper) l.past.entries l.at
