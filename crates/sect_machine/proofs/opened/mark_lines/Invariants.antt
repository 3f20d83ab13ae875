-- what the lines so far open is marked
use Rattle.std.proofs.Common.{take}
use Rattle.sect_wait.specs.Marked.{MarksMore}
use Rattle.sect_machine.specs.Opening.{lines_open}
use Rattle.sect_machine.proofs.opened.mark_lines.Given as goal

abbrev pub invariant-loop-line : goal.invariant-loop-line
invariant-loop-line l = MarksMore (lines_open l.world.world l.initial.marks.spent (take l.line-index l.lines)) l.queue.queue.entries l.initial.marks l.marks
