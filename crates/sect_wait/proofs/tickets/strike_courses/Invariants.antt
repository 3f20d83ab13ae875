-- the other tickets stand where they stood
use Rattle.sect_wait.specs.Indexed.{KeepsOtherTickets}
use Rattle.sect_wait.proofs.tickets.strike_courses.Given as goal

abbrev pub invariant-loop-course : goal.invariant-loop-course
invariant-loop-course l = KeepsOtherTickets l.ticket l.initial.index l.index
