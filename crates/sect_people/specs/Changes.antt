-- The changes of a list of students, and their ids.
use Rattle.std.specs.Prelude.{◌==◌, cond, List, [], ◌∷◌, ◌++◌, map}
use Rattle.std.specs.Option.{is_some}
use Rattle.sect_base.specs.declared.ids.StudentId.{StudentId}
use Rattle.sect_people.specs.declared.row.StudentRow.{StudentRow}
use Rattle.sect_people.specs.declared.row.Ask.{Ask}
use Rattle.sect_people.specs.Student.{Student, find_student}
use Rattle.sect_people.specs.Order.{sorted_by}

-- the row in place of the student's, where this is the student
abbrev pub with_row : StudentRow → Student → Student
with_row row s = cond (s.row.id.0 == row.id.0) (record s { row = row }) s

-- a new student has no requests; those of a known one stay
abbrev pub put_row : List Student → StudentRow → List Student
put_row students row =
    cond (is_some (find_student students row.id)) (map (with_row row) students) (students ++ record { row = row; asks = [] } ∷ [])

-- the requests in place of the student's, where this is the student
abbrev pub with_asks : StudentId → List Ask → Student → Student
with_asks student asks s = cond (s.row.id.0 == student.0) (record s { asks = asks }) s

-- the requests of one student
abbrev pub put_asks : List Student → StudentId → List Ask → List Student
put_asks students student asks = map (with_asks student asks) students

abbrev pub students_by_id : List Student → List Student
students_by_id students = sorted_by (λ s. s.row.id.0) students

-- the ids in rising order
abbrev pub ids_of : List Student → List StudentId
ids_of students = map (λ s. s.row.id) (students_by_id students)
