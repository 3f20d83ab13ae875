use Rattle.sect_app.proofs.GoodImports.{imports}
use Rattle.sect_app.proofs.import.import_table.Goals as goal

pub returns-clause-imports : goal.returns-clause-imports
returns-clause-imports g c =
    imports g.K.Keeper.rows g.K.Keeper.faults c.args.table c.args.term c.args.first c.args.keeper c.import_over.result.1
    (g.S.Source.left c.args.source.now) (g.S.Source.left c.import_over.new.source)
    (g.T.Sink.taken c.args.sink.now) (g.T.Sink.taken c.import_over.new.sink)
    (g.C.Clock.days c.args.clock) c.import_over.result.0 c.replays_are_good.ensures c.import_over.ensures.takes
