-- the courses so far are marked
use Rattle.std.proofs.Common.{List, take}
use Rattle.sect_model.specs.declared.held.Waiting.{Waiting}
use Rattle.sect_wait.specs.Marked.{MarksMore, wants_one}
use Rattle.sect_wait.specs.Touched.{MarksOnly}
use Rattle.sect_wait.proofs.opened.mark_wanted.Given as goal

abbrev pub invariant-loop-course : goal.invariant-loop-course
invariant-loop-course l =
    ((es : List Waiting) → MarksMore (wants_one (take l.course-index l.courses)) es l.initial.marks l.marks)
    × ((es : List Waiting) → MarksOnly (wants_one l.courses) es l.initial.marks l.marks)
