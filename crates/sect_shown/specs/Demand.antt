-- What is wanted of each course.
use Rattle.std.specs.Prelude.{ℕ, Bool, ◌==◌, List, [], ◌∷◌, codes, decimal, length, filter}
use Rattle.std.specs.List.{list_any}
use Rattle.sect_people.specs.Fault.{lists_course}
use Rattle.sect_command.specs.declared.view.AsksView.{AsksView}
use Rattle.sect_command.specs.declared.view.OpenCourse.{OpenCourse}
use Rattle.sect_command.specs.declared.view.WaitView.{WaitView}
use Rattle.sect_model.specs.Data.{CourseId}
use Rattle.sect_words.specs.Words.{limit_text}
use Rattle.sect_report.specs.Line.{line_text}

-- a request of the student is for the course
abbrev pub asks_for : CourseId → AsksView → Bool
asks_for course row = list_any (lists_course course) row.asks

-- the entry waits for the course
abbrev pub waits_for : CourseId → WaitView → Bool
waits_for course entry = list_any (λ c. c.0 == course.0) entry.courses

-- `course ID asked N held N waiting N limit LIMIT`: how many students ask for it, hold it, how many entries wait for it
abbrev pub demand_line : List AsksView → List WaitView → OpenCourse → List ℕ
demand_line asks entries c = line_text (
    codes "course" ∷ decimal c.course.0
    ∷ codes "asked" ∷ decimal (length (filter (asks_for c.course) asks))
    ∷ codes "held" ∷ decimal c.held
    ∷ codes "waiting" ∷ decimal (length (filter (waits_for c.course) entries))
    ∷ codes "limit" ∷ limit_text c.limit
    ∷ [])
