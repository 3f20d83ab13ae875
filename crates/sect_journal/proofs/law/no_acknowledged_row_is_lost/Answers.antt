use Rattle.sect_journal.proofs.Runs.{leaves_between, leaves_within}
use Rattle.sect_journal.proofs.law.no_acknowledged_row_is_lost.Goals as goal

pub returns-clause-between : goal.returns-clause-between
returns-clause-between g c before start end calls opened run = leaves_between g.D.Disk.told before start end calls opened run

pub returns-clause-within : goal.returns-clause-within
returns-clause-within g c before start end next calls call opened run takes = leaves_within g.D.Disk.told before start end next calls call opened run takes
