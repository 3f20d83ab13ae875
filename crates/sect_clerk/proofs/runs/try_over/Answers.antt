use Rattle.sect_clerk.proofs.Trying.{tries_lines, tries_none}
use Rattle.sect_clerk.proofs.runs.try_over.Goals as goal

pub returns-in-Ok-clause-tries : goal.returns-in-Ok-clause-tries
returns-in-Ok-clause-tries g c = λ keeper opens.
    tries_lines g.O.Object.start g.O.Object.stepped g.O.Object.is_row g.K.Keeper.rows g.K.Keeper.faults keeper c.close.result c.args.desk
    _ _ _ _ (g.C.Clock.days c.args.clock) c.new-trier.result c.run_lines-end.new.handler c.run_lines-end.result c.status_of.result
    opens c.new-trier.ensures c.run_lines-end.ensures.ran c.close.ensures c.status_of.ensures

pub returns-in-Err-clause-tries : goal.returns-in-Err-clause-tries
returns-in-Err-clause-tries g c = λ keeper opens.
    tries_none g.O.Object.start g.O.Object.stepped g.O.Object.is_row g.K.Keeper.rows g.K.Keeper.faults keeper c.close-in-Err.result c.args.desk
    (g.S.Source.left c.args.source.now) (g.S.Source.left c.args.source.now) (g.T.Sink.taken c.args.sink.now) (g.T.Sink.taken c.args.sink.now)
    (g.C.Clock.days c.args.clock) opens c.close-in-Err.ensures
