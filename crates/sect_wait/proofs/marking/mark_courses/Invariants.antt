-- each of the entries that want one of the courses so far is marked
use Rattle.std.proofs.Common.{List, take}
use Rattle.sect_model.specs.declared.held.Waiting.{Waiting}
use Rattle.sect_wait.specs.Marked.{MarksMore, wants_some}
use Rattle.sect_wait.specs.Touched.{MarksOnly}
use Rattle.sect_wait.proofs.marking.mark_courses.Given as goal

abbrev pub invariant-loop-course : goal.invariant-loop-course
invariant-loop-course l =
    ((es : List Waiting) → MarksMore (wants_some (take l.course-index l.courses)) es l.initial.marks l.marks)
    × ((es : List Waiting) → MarksOnly (wants_some l.courses) es l.initial.marks l.marks)
