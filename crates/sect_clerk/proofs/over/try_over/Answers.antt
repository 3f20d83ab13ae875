use Rattle.sect_clerk.proofs.Kept.{tried_keeps}
use Rattle.sect_clerk.proofs.over.try_over.Goals as goal

pub returns-clause-rows_stay : goal.returns-clause-rows_stay
returns-clause-rows_stay g c =
    tried_keeps g.K.Keeper.rows g.K.Keeper.faults c.args.keeper c.try_lines.result.1
    (g.S.Source.left c.args.source.now) (g.S.Source.left c.try_lines.new.source)
    (g.T.Sink.taken c.args.sink.now) (g.T.Sink.taken c.try_lines.new.sink) c.try_lines.result.0
    (g.C.Clock.days c.args.clock) c.try_lines.ensures.tries
