use Rattle.std.proofs.Common.{ap, sym, ◌∙◌}
use Rattle.csv.specs.Records.{fields_of}
use Rattle.sect_tables.specs.Headers.{first_difference, names_of}
use Rattle.sect_tables.proofs.header.header_difference.Goals as goal

pub returns-in-Offerings : goal.returns-in-Offerings
returns-in-Offerings c = c.first_other.ensures ∙ ap (λ t. first_difference (fields_of c.args.row.now) (names_of t)) (sym c.in-Offerings.is)

pub returns-in-Students : goal.returns-in-Students
returns-in-Students c = c.first_other-in-Students.ensures ∙ ap (λ t. first_difference (fields_of c.args.row.now) (names_of t)) (sym c.in-Students.is)

pub returns-in-Reservations : goal.returns-in-Reservations
returns-in-Reservations c =
    c.first_other-in-Reservations.ensures ∙ ap (λ t. first_difference (fields_of c.args.row.now) (names_of t)) (sym c.in-Reservations.is)
