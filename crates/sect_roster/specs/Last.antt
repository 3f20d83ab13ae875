-- The last enrolment of a student.
use Rattle.std.specs.Prelude.{not, ◌&&◌, ◌==◌, cond, List, [], ◌∷◌, Option, None}
use Rattle.std.specs.Bool.{then_some}
use Rattle.std.specs.List.{list_any}
use Rattle.std.specs.Option.{option_or}
use Rattle.sect_base.specs.declared.ids.StudentId.{StudentId}
use Rattle.sect_model.specs.declared.held.Enrolment.{Enrolment}

-- the student's last enrolment
abbrev pub last_of : StudentId → List Enrolment → Option Enrolment
last_of student [] = None
last_of student (e ∷ es) = option_or (last_of student es) (then_some (e.student.0 == student.0) e)

-- the enrolments without the student's last one
abbrev pub drop_last_of : StudentId → List Enrolment → List Enrolment
drop_last_of student [] = []
drop_last_of student (e ∷ es) =
    cond (e.student.0 == student.0 && not (list_any (λ f. f.student.0 == student.0) es)) es (e ∷ drop_last_of student es)
