-- what the enrolments so far open is marked
use Rattle.std.proofs.Common.{take}
use Rattle.sect_wait.specs.Marked.{MarksMore}
use Rattle.sect_machine.specs.Opening.{taking_opens}
use Rattle.sect_machine.proofs.opened.mark_taken.Given as goal

abbrev pub invariant-loop-choice : goal.invariant-loop-choice
invariant-loop-choice l = MarksMore (taking_opens l.world.world l.initial.marks.spent l.student (take l.choice-index l.choices)) l.queue.queue.entries l.initial.marks l.marks
