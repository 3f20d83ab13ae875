use Rattle.sect_app.proofs.Good.{desk_runs}
use Rattle.sect_app.proofs.over.run_desk.Goals as goal

pub returns-clause-runs : goal.returns-clause-runs
returns-clause-runs g c =
    desk_runs g.K.Keeper.rows g.K.Keeper.faults c.args.keeper c.run.result.1
    (g.S.Source.left c.args.source.now) (g.S.Source.left c.run.new.source)
    (g.T.Sink.taken c.args.sink.now) (g.T.Sink.taken c.run.new.sink)
    (g.C.Clock.days c.args.clock) c.run.result.0 c.replays_are_good.ensures c.run.ensures.runs
