-- A check is a run that says what is to be said of the lines.
use Rattle.sect_clerk.proofs.Told.{checked, checked_as_run}
use Rattle.sect_clerk.proofs.checker.check.Goals as goal

pub returns-clause-checks : goal.returns-clause-checks
returns-clause-checks g c =
    rw c.check_status.ensures (checked (g.S.Source.left c.args.source.now) (g.S.Source.left c.run_lines-end.new.source)
    (g.T.Sink.taken c.args.sink.now) (g.T.Sink.taken c.run_lines-end.new.sink)
    c.run_lines-end.new.handler c.run_lines-end.result c.run_lines-end.ensures.ran)

pub returns-clause-run : goal.returns-clause-run
returns-clause-run g c =
    rw c.check_status.ensures (checked_as_run (g.S.Source.left c.args.source.now) (g.S.Source.left c.run_lines-end.new.source)
    (g.T.Sink.taken c.args.sink.now) (g.T.Sink.taken c.run_lines-end.new.sink)
    c.run_lines-end.new.handler c.run_lines-end.result c.run_lines-end.ensures.ran)
