-- the courses so far are marked
use Rattle.std.proofs.Common.{List, take}
use Rattle.sect_model.specs.declared.held.Waiting.{Waiting}
use Rattle.sect_wait.specs.Marked.{MarksMore}
use Rattle.sect_wait.specs.Opened.{gives_and_wants}
use Rattle.sect_wait.specs.Touched.{MarksOnly}
use Rattle.sect_wait.proofs.opened.mark_givers.Given as goal

abbrev pub invariant-loop-course : goal.invariant-loop-course
invariant-loop-course l =
    ((es : List Waiting) → MarksMore (gives_and_wants (take l.course-index l.courses)) es l.initial.marks l.marks)
    × ((es : List Waiting) → MarksOnly (gives_and_wants l.courses) es l.initial.marks l.marks)
