-- The enrolments of a student, and where one stands among them.
use Rattle.std.specs.Prelude.{ℕ, List}
use Rattle.sect_model.specs.declared.held.Enrolment.{Enrolment}
use Rattle.sect_roster.specs.Slots.{rows_of, number_of, put_among as put_among_its_own}

-- the enrolments of the student of a number, the earliest first
abbrev pub of_student : ℕ → List Enrolment → List Enrolment
of_student n es = rows_of (λ e. e.student.0) n es

-- how many enrolments the student of a number has
abbrev pub number_held : ℕ → List Enrolment → ℕ
number_held n es = number_of (λ e. e.student.0) n es

-- with an enrolment behind so many others of its student
abbrev pub put_among : ℕ → Enrolment → List Enrolment → List Enrolment
put_among place e es = put_among_its_own (λ x. x.student.0) place e es
