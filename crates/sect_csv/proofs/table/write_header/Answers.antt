-- The names written are those of the table.
use Rattle.sect_csv.proofs.table.write_header.Goals as goal

pub returns-in-Offerings : goal.returns-in-Offerings
returns-in-Offerings c = rw c.in-Offerings.is c.write.ensures

pub returns-in-Students : goal.returns-in-Students
returns-in-Students c = rw c.in-Students.is c.write-in-Students.ensures

pub returns-in-Reservations : goal.returns-in-Reservations
returns-in-Reservations c = rw c.in-Reservations.is c.write-in-Reservations.ensures
