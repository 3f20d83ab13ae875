-- By what was asked: lines, tables, connections.
use Rattle.sect_app.proofs.Faulted.{few_of_lines, few_of_tables}
use Rattle.sect_app.proofs.Unavailable.{few_of_connections}
use Rattle.sect_app.proofs.laws.faults_told_are_few.Goals as goal

pub returns-clause-lines : goal.returns-clause-lines
returns-clause-lines g c = few_of_lines g.K.Keeper.rows g.K.Keeper.faults

pub returns-clause-tables : goal.returns-clause-tables
returns-clause-tables g c = few_of_tables g.K.Keeper.rows g.K.Keeper.faults

pub returns-clause-connections : goal.returns-clause-connections
returns-clause-connections g c =
    few_of_connections g.K.Keeper.rows g.K.Keeper.faults g.L.In.Source.left g.L.Out.Sink.taken g.L.In.Source.faults g.L.Out.Sink.faults g.L.Link.connections g.L.Link.faults
