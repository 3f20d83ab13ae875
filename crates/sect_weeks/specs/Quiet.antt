-- The changes that bring students.
use Rattle.std.specs.Prelude.{Bool, true, false}
use Rattle.sect_model.specs.declared.change.Change.{Change}
use Rattle.sect_model.specs.declared.change.Change.TheVariants.{Offering, Student, Requests, Reserve, Unreserve, Expiry, Restrict, Unrestrict, Cap as new_cap, Cancelled, Day, Enrol, Leave}
use Rattle.sect_weeks.specs.declared.weeks.Weeks.{Weeks}
use Rattle.sect_weeks.specs.Rows.{has_row}

-- the student of the change has a calendar
abbrev pub has_new : Weeks → Change → Bool
has_new t (Offering row) = true
has_new t (Student row) = has_row t row.id.0
has_new t (Requests student asks) = true
has_new t (Reserve r) = true
has_new t (Unreserve id) = true
has_new t (Expiry id day) = true
has_new t (Restrict r) = true
has_new t (Unrestrict id) = true
has_new t (new_cap cap limit) = true
has_new t (Cancelled id) = true
has_new t (Day day) = true
has_new t (Enrol e) = true
has_new t (Leave student course) = true

-- the change may bring a student
abbrev pub adds_students : Change → Bool
adds_students (Offering row) = false
adds_students (Student row) = true
adds_students (Requests student asks) = false
adds_students (Reserve r) = false
adds_students (Unreserve id) = false
adds_students (Expiry id day) = false
adds_students (Restrict r) = false
adds_students (Unrestrict id) = false
adds_students (new_cap cap limit) = false
adds_students (Cancelled id) = false
adds_students (Day day) = false
adds_students (Enrol e) = false
adds_students (Leave student course) = false
