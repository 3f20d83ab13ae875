-- the student's entries of those so far are marked, and no other student's
use Rattle.std.proofs.Common.{take}
use Rattle.std.specs.Prelude.{◌==◌, ◌&&◌}
use Rattle.std.specs.List.{list_any}
use Rattle.sect_wait.specs.Marked.{MarksMore}
use Rattle.sect_wait.specs.Touched.{MarksOnly}
use Rattle.sect_wait.proofs.marking.mark_own_among.Given as goal

abbrev pub invariant-loop-entry : goal.invariant-loop-entry
invariant-loop-entry l =
    MarksMore (λ e. list_any (λ d. d.ticket == e.ticket && l.student.0 == e.student.0) (take l.entry-index l.entries)) l.queue.queue.entries l.initial.marks l.marks
    × MarksOnly (λ e. l.student.0 == e.student.0) l.queue.queue.entries l.initial.marks l.marks
