-- By the laws of tables.
use Rattle.sect_app.proofs.Returns.{comes_back}
use Rattle.sect_app.proofs.over.export_table.Goals as goal

pub returns-clause-exports : goal.returns-clause-exports
returns-clause-exports g c = λ left.
    comes_back c.a_state_reads_back.ensures.logs c.tables_return.ensures c.args.table g.K.Keeper.rows g.K.Keeper.faults c.args.keeper c.tell.result.1
    left (g.T.Sink.taken c.args.sink.now) (g.T.Sink.taken c.tell.new.sink) c.tell.result.0 (c.tell.ensures.tells left)
