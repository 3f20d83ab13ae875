-- the tickets stand where they stood, and the ticket stands by each of the courses so far
use Rattle.std.proofs.Common.{◌≡◌, true, take}
use Rattle.std.specs.List.{list_all}
use Rattle.sect_wait.specs.Indexed.{KeepsTickets, has_ticket, tickets_by}
use Rattle.sect_wait.proofs.tickets.note_courses.Given as goal

abbrev pub invariant-loop-course : goal.invariant-loop-course
invariant-loop-course l =
    KeepsTickets l.initial.index l.index
    × (list_all (λ c. has_ticket l.ticket (tickets_by l.index c.0)) (take l.course-index l.courses) ≡ true)
