-- the tickets of those who want one of the courses so far are listed, and they are few
use Rattle.std.proofs.Common.{◌≤◌, length, take}
use Rattle.sect_wait.specs.Marked.{wants_one}
use Rattle.sect_wait.specs.Opened.{ListsMore}
use Rattle.sect_wait.proofs.sought.list_courses.Given as goal

abbrev pub invariant-loop-course : goal.invariant-loop-course
invariant-loop-course l = ListsMore (wants_one (take l.course-index l.courses)) l.queue.queue.entries l.initial.tickets.items l.tickets.items × (length l.tickets.items ≤ l.most)
