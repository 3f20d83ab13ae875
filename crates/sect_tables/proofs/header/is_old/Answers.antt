use Rattle.std.proofs.Common.{ap, sym, ◌∙◌}
use Rattle.std.specs.Prelude.{is_none}
use Rattle.csv.specs.Records.{fields_of}
use Rattle.sect_tables.specs.Rows.{is_old_header}
use Rattle.sect_tables.proofs.FieldLemmas.{by_not}
use Rattle.sect_tables.proofs.header.is_old.Goals as goal

pub returns-in-Reservations : goal.returns-in-Reservations
returns-in-Reservations c =
    by_not c.is_none.result c.first_other.result c.is_none.ensures
    ∙ ap is_none c.first_other.ensures
    ∙ ap (λ t. is_old_header t (fields_of c.args.row.now)) (sym c.in-Reservations.is)
