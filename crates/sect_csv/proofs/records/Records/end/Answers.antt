use Rattle.std.proofs.Common.{map}
use Rattle.csv.specs.Records.{fields_of}
use Rattle.sect_csv.proofs.KeptLemmas.{text-end-if}
use Rattle.sect_csv.proofs.records.Records.end.Goals as goal

pub returns-clause-rows : goal.returns-clause-rows
returns-clause-rows c =
    rw (← c.self.view_is)
    (text-end-if c.self.inside.past.bytes c.self.inside.kept (λ rows. map fields_of rows.items) c.end.result c.self.invariant c.end.ensures)
