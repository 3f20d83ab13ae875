use Rattle.std.proofs.Common.{None}
use Rattle.sect_clerk.proofs.Kept.{told_keeps}
use Rattle.sect_clerk.proofs.over.tell_of.Goals as goal

pub returns-clause-rows_stay : goal.returns-clause-rows_stay
returns-clause-rows_stay g c =
    told_keeps g.K.Keeper.rows g.K.Keeper.faults c.args.keeper c.tell.result.1 None None
    (g.T.Sink.taken c.args.sink.now) (g.T.Sink.taken c.tell.new.sink) c.tell.result.0 (g.W.Teller.tells c.args.what.now) (c.tell.ensures.tells None)
