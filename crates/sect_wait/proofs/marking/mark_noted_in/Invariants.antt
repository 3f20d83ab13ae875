-- the entries of the tickets so far that want the offering are marked, and none but who want it
use Rattle.std.proofs.Common.{None, Some, take}
use Rattle.sect_wait.specs.Marked.{MarksMore, concerns, is_noted_in}
use Rattle.sect_wait.specs.Touched.{MarksOnly}
use Rattle.sect_wait.proofs.marking.mark_noted_in.Given as goal

abbrev pub invariant-loop-place : goal.invariant-loop-place
invariant-loop-place l =
    MarksMore (is_noted_in (take l.place l.initial.marks.spent) (Some l.row)) l.queue.queue.entries l.initial.marks l.marks
    × MarksOnly (concerns None (Some l.row)) l.queue.queue.entries l.initial.marks l.marks
