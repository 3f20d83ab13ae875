-- the bytes that were read were fed, and what they show asked
use Rattle.std.proofs.Common.{◌-◌, ◌<◌, ◌≤◌, length}
use Rattle.sect_app.specs.Asking.{AnswersNumbered}
use Rattle.sect_app.specs.Table.{TABLE_LIMIT}
use Rattle.sect_app.specs.Underway.{Underway}
use Rattle.sect_app.proofs.table.run_table.Given as goal

abbrev pub invariant-pieces : goal.invariant-pieces
invariant-pieces g l = record {
  underway : Underway (AnswersNumbered g.O.Object.stepped g.O.Object.is_row g.K.Keeper.rows g.K.Keeper.faults) l.fn.table l.fn.term l.fn.first
      (g.S.Source.left l.fn.source) (g.S.Source.left l.source) (g.T.Sink.taken l.fn.sink) (g.T.Sink.taken l.sink) l.fn.asker l.asker l.import l.next l.total;
  few : l.total ≤ TABLE_LIMIT;
  room : 0 < length l.buffer.items;
  read_faults : g.S.Source.faults l.fn.source ≤ g.S.Source.faults l.source;
  write_faults : g.T.Sink.faults l.fn.sink ≤ g.T.Sink.faults l.sink;
}

abbrev pub decreases-pieces : goal.decreases-pieces
decreases-pieces g l = TABLE_LIMIT - l.total
