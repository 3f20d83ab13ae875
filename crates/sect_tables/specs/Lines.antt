-- The values of a row of each table, whose fields are read in order. A plus is 43 and a semicolon 59.
use Rattle.std.specs.Prelude.{ℕ, ◌==◌, bytes_eq, Bool, true, false, List, Option, None, Some, Result, Ok, Err, codes, decimal, if◌then◌else◌}
use Rattle.sect_base.specs.declared.ids.StudentId.{StudentId}
use Rattle.sect_base.specs.declared.limit.Limit.{Limit}
use Rattle.sect_catalog.specs.declared.row.CourseRow.{CourseRow}
use Rattle.sect_command.specs.declared.command.ReserveRow.{ReserveRow}
use Rattle.sect_tables.specs.Fields.{field_of, of_length}
use Rattle.sect_tables.specs.Told.{◌>>=◌, told}
use Rattle.sect_tables.specs.declared.line.Before.{Before}
use Rattle.sect_tables.specs.declared.line.SectionLine.{SectionLine}
use Rattle.sect_people.specs.declared.row.Ask.{Ask}
use Rattle.sect_people.specs.declared.row.Ask.TheVariants.{Course, Free}
use Rattle.sect_people.specs.declared.row.StudentRow.{StudentRow}
use Rattle.sect_words.specs.Parts.{pieces}
use Rattle.sect_words.specs.Reading.{all_of, only_where}
use Rattle.sect_words.specs.ReadingWords.{
  audience_of,
  config_of,
  course_of,
  course_row_of,
  curriculum_of,
  day_of,
  flag_of,
  group_of,
  limit_of,
  list_of,
  meeting_of,
  offering_of,
  optional_of,
  reservation_of,
  section_of,
  student_of,
  subpart_of,
  u16_of,
}
use Rattle.sect_words.specs.Times.{term_meeting_of}

-- the courses' text is that of the row before, where there is one
abbrev pub has_courses_of : Option Before → List ℕ → Bool
has_courses_of None text = true
has_courses_of (Some before) text = bytes_eq before.courses text

-- the limit's text is that of the row before, where that has the same configuration
abbrev pub has_limit_of : Option Before → ℕ → List ℕ → Bool
has_limit_of None config text = true
has_limit_of (Some before) config text = if before.config.0 == config then bytes_eq before.limit text else true

-- courses, of which there is one at least
abbrev pub courses_of : Option Before → List ℕ → Option (List CourseRow)
courses_of before text = if has_courses_of before text then all_of course_row_of (pieces 43 text) else None

-- the limit of a configuration
abbrev pub config_limit_of : Option Before → ℕ → List ℕ → Option Limit
config_limit_of before config text = if has_limit_of before config text then limit_of text else None

-- the values of a section's fields
unfoldable pub section_fields : Option ℕ → Option Before → List (List ℕ) → Result SectionLine ℕ
section_fields term before fields = do
  offering ← told 1 (offering_of (field_of fields 1))
  courses ← told 2 (courses_of before (field_of fields 2))
  config ← told 3 (config_of (field_of fields 3))
  config_limit ← told 4 (config_limit_of before config.0 (field_of fields 4))
  subpart ← told 5 (subpart_of (field_of fields 5))
  id ← told 6 (section_of (field_of fields 6))
  limit ← told 7 (limit_of (field_of fields 7))
  parent ← told 8 (optional_of section_of (field_of fields 8))
  meetings ← told 9 (list_of 43 (term_meeting_of term) (field_of fields 9))
  Ok (record { offering = offering; courses = courses; config = config; config_limit = config_limit; subpart = subpart; section = record { id = id; limit = limit; parent = parent; meetings = meetings } })

-- a row of the table of offerings: a section, with the row before it in the same offering
unfoldable pub section_line : Option ℕ → Option Before → List (List ℕ) → Result SectionLine ℕ
section_line term before fields = of_length 9 fields (section_fields term before fields)

-- what the row behind a row with this configuration is compared with
abbrev pub before_of : ℕ → List (List ℕ) → Before
before_of config fields = record { courses = field_of fields 2; config = record { 0 = config }; limit = field_of fields 4 }

-- the values of a student's fields
unfoldable pub student_fields : List (List ℕ) → Result StudentRow ℕ
student_fields fields = do
  id ← told 1 (student_of (field_of fields 1))
  max_credits ← told 2 (u16_of (field_of fields 2))
  groups ← told 3 (list_of 43 group_of (field_of fields 3))
  curricula ← told 4 (list_of 59 curriculum_of (field_of fields 4))
  Ok (record { id = id; max_credits = max_credits; groups = groups; curricula = curricula })

-- a row of the table of students
unfoldable pub student_line : List (List ℕ) → Result StudentRow ℕ
student_line fields = of_length 4 fields (student_fields fields)

-- the number, where the text is its digits
abbrev pub rank_of : ℕ → List ℕ → Option ℕ
rank_of rank text = only_where (bytes_eq (decimal rank) text) rank

-- no, as a free time has it, whose text is 0 alone
abbrev pub no_of : List ℕ → Option Bool
no_of text = only_where (bytes_eq (codes "0") text) false

-- the values of a request for one of some courses
unfoldable pub course_fields : List (List ℕ) → Result Ask ℕ
course_fields fields = do
  courses ← told 4 (list_of 43 course_of (field_of fields 4))
  wait ← told 5 (flag_of (field_of fields 5))
  substitute ← told 6 (flag_of (field_of fields 6))
  Ok (Course (record { courses = courses; wait = wait; substitute = substitute }))

-- the values of a time that is to be kept free
unfoldable pub free_fields : List (List ℕ) → Result Ask ℕ
free_fields fields = do
  meeting ← told 4 (meeting_of (field_of fields 4))
  wait ← told 5 (no_of (field_of fields 5))
  substitute ← told 6 (no_of (field_of fields 6))
  Ok (Free meeting)

-- the values of a request of this kind
abbrev pub kind_fields : List ℕ → List (List ℕ) → Result Ask ℕ
kind_fields kind fields =
    if bytes_eq kind (codes "course") then course_fields fields
    else (if bytes_eq kind (codes "free") then free_fields fields else Err 3)

-- the values of a request's fields
unfoldable pub ask_fields : ℕ → List (List ℕ) → Result (StudentId × Ask) ℕ
ask_fields rank fields = do
  student ← told 1 (student_of (field_of fields 1))
  place ← told 2 (rank_of rank (field_of fields 2))
  ask ← kind_fields (field_of fields 3) fields
  Ok (student, ask)

-- a row of the table of requests, whose rank is the one wanted
unfoldable pub ask_line : ℕ → List (List ℕ) → Result (StudentId × Ask) ℕ
ask_line rank fields = of_length 6 fields (ask_fields rank fields)

-- a first day, of which the old table says nothing
abbrev pub first_of : Bool → List (List ℕ) → Option (Option ℕ)
first_of has_first fields = if has_first then optional_of day_of (field_of fields 11) else Some None

-- the values of a reservation's fields
unfoldable pub reservation_fields : Bool → List (List ℕ) → Result ReserveRow ℕ
reservation_fields has_first fields = do
  id ← told 1 (reservation_of (field_of fields 1))
  offering ← told 2 (offering_of (field_of fields 2))
  audience ← told 3 (audience_of (field_of fields 3))
  limit ← told 4 (limit_of (field_of fields 4))
  expiry ← told 5 (optional_of day_of (field_of fields 5))
  configs ← told 6 (list_of 43 config_of (field_of fields 6))
  sections ← told 7 (list_of 43 section_of (field_of fields 7))
  over ← told 8 (flag_of (field_of fields 8))
  overlap ← told 9 (flag_of (field_of fields 9))
  must ← told 10 (flag_of (field_of fields 10))
  first ← told 11 (first_of has_first fields)
  Ok (record { id = id; offering = offering; audience = audience; limit = limit; first = first; expiry = expiry; configs = configs; sections = sections; over = over; overlap = overlap; must = must })

-- how many fields the table of reservations has
abbrev pub reservation_length : Bool → ℕ
reservation_length has_first = if has_first then 11 else 10

-- a row of the table of reservations
unfoldable pub reservation_line : Bool → List (List ℕ) → Result ReserveRow ℕ
reservation_line has_first fields = of_length (reservation_length has_first) fields (reservation_fields has_first fields)
