-- By the commands, one after the other.
use Rattle.sect_return.proofs.StudentsAgain.{students_return}
use Rattle.sect_return.proofs.states.students_return.Goals as goal

pub returns : goal.returns
returns c = students_return
