use Rattle.sect_app.proofs.Growing.{runs_table}
use Rattle.sect_app.proofs.opened.ask_table.Goals as goal

pub returns-clause-runs : goal.returns-clause-runs
returns-clause-runs g c = λ keeper opens.
    runs_table g.O.Object.start g.O.Object.stepped g.O.Object.is_row g.K.Keeper.rows g.K.Keeper.faults c.args.table c.args.term c.args.first keeper c.leave.result c.args.desk
    c.new-asker.result c.run_table-end.new.asker _ _ _ _ (g.C.Clock.days c.args.clock) c.run_table-end.result c.status_of.result
    opens c.new-asker.ensures c.run_table-end.ensures.ran c.leave.ensures.sound c.leave.ensures.keeper c.status_of.ensures
