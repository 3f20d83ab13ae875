use Rattle.sect_asking.proofs.Grows.{runs_lines}
use Rattle.sect_asking.proofs.runs.ask_lines.Goals as goal

pub returns-clause-runs : goal.returns-clause-runs
returns-clause-runs g c = λ keeper opens.
    runs_lines g.O.Object.start g.O.Object.stepped g.O.Object.is_row g.K.Keeper.rows g.K.Keeper.faults keeper c.leave.result c.args.desk
    c.new-asker.result c.run_lines-end.new.handler _ _ _ _ (g.C.Clock.days c.args.clock) c.run_lines-end.result c.status_of.result
    opens c.new-asker.ensures c.run_lines-end.ensures.ran c.leave.ensures.sound c.leave.ensures.keeper c.status_of.ensures
