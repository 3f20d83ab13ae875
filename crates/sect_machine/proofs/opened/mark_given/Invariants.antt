-- what leaving the courses so far opens is marked
use Rattle.std.proofs.Common.{take}
use Rattle.sect_wait.specs.Marked.{MarksMore}
use Rattle.sect_machine.specs.Opening.{leaving_opens}
use Rattle.sect_machine.proofs.opened.mark_given.Given as goal

abbrev pub invariant-loop-course : goal.invariant-loop-course
invariant-loop-course l = MarksMore (leaving_opens l.world.world l.student (take l.course-index l.courses)) l.queue.queue.entries l.initial.marks l.marks
