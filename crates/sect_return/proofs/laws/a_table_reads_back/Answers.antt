-- By the tables, one after the other.
use Rattle.sect_return.proofs.Catalogues.{offerings_read_back}
use Rattle.sect_return.proofs.Requests.{requests_read_back}
use Rattle.sect_return.proofs.Reservations.{reservations_read_back}
use Rattle.sect_return.proofs.Students.{students_read_back}
use Rattle.sect_return.proofs.laws.a_table_reads_back.Goals as goal

pub returns-clause-offerings : goal.returns-clause-offerings
returns-clause-offerings c = offerings_read_back

pub returns-clause-students : goal.returns-clause-students
returns-clause-students c = students_read_back

pub returns-clause-requests : goal.returns-clause-requests
returns-clause-requests c = requests_read_back

pub returns-clause-reservations : goal.returns-clause-reservations
returns-clause-reservations c = reservations_read_back
