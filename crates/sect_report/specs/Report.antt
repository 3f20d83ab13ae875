-- The lines of each report.
use Rattle.std.specs.Prelude.{ℕ, List, [], ◌∷◌, ◌++◌, codes, decimal, if◌then◌else◌, length}
use Rattle.std.specs.List.{flat_map}
use Rattle.sect_base.specs.declared.choice.Choice.{Choice}
use Rattle.sect_command.specs.declared.view.RollView.{RollView}
use Rattle.sect_command.specs.declared.view.HeldView.{HeldView}
use Rattle.sect_command.specs.declared.view.OpenView.{OpenView}
use Rattle.sect_command.specs.declared.view.OpenCourse.{OpenCourse}
use Rattle.sect_command.specs.declared.view.OpenConfig.{OpenConfig}
use Rattle.sect_command.specs.declared.view.OpenSection.{OpenSection}
use Rattle.sect_command.specs.declared.view.ScheduleView.{ScheduleView}
use Rattle.sect_command.specs.declared.view.WaitView.{WaitView}
use Rattle.sect_command.specs.declared.view.UnmetView.{UnmetView}
use Rattle.sect_report.specs.Line.{line_text, space_text}
use Rattle.sect_words.specs.Words.{limit_text, list_text, optional_text}

-- an enrolment in a section
abbrev pub held_text : HeldView → List ℕ
held_text h = line_text (
    codes "student" ∷ decimal h.student.0
    ∷ codes "course" ∷ decimal h.course.0
    ∷ codes "reservation" ∷ optional_text (λ id. decimal id.0) h.reservation
    ∷ [])

-- a section with its enrolments
abbrev pub roll_text : RollView → List ℕ
roll_text v = line_text (
    codes "section" ∷ decimal v.section.0
    ∷ codes "limit" ∷ limit_text v.limit
    ∷ codes "held" ∷ decimal (length v.held)
    ∷ []) ++ flat_map held_text v.held

-- the places of a course
abbrev pub course_text : OpenCourse → List ℕ
course_text c = line_text (
    codes "course" ∷ decimal c.course.0
    ∷ codes "limit" ∷ limit_text c.limit
    ∷ codes "held" ∷ decimal c.held
    ∷ [])

-- the mark behind a section that is cancelled
abbrev pub cancelled_words : OpenSection → List (List ℕ)
cancelled_words s = (if s.cancelled then codes "cancelled" ∷ [] else [])

-- the places of a section
abbrev pub section_text : OpenSection → List ℕ
section_text s = line_text (
    codes "section" ∷ decimal s.section.0
    ∷ codes "limit" ∷ limit_text s.limit
    ∷ codes "held" ∷ decimal s.held
    ∷ codes "free" ∷ space_text s.free
    ∷ cancelled_words s)

-- the places of a configuration, and of its sections
abbrev pub config_text : OpenConfig → List ℕ
config_text g = line_text (
    codes "config" ∷ decimal g.config.0
    ∷ codes "limit" ∷ limit_text g.limit
    ∷ codes "held" ∷ decimal g.held
    ∷ codes "free" ∷ space_text g.free
    ∷ []) ++ flat_map section_text g.sections

-- the places of an offering, of its courses and of its configurations
abbrev pub open_text : OpenView → List ℕ
open_text v = line_text (
    codes "offering" ∷ decimal v.offering.0
    ∷ codes "limit" ∷ optional_text decimal v.limit
    ∷ codes "held" ∷ decimal v.held
    ∷ codes "free" ∷ space_text v.free
    ∷ []) ++ (flat_map course_text v.courses ++ flat_map config_text v.configs)

-- an enrolment of a student
abbrev pub choice_text : Choice → List ℕ
choice_text c = line_text (
    codes "course" ∷ decimal c.course.0
    ∷ codes "reservation" ∷ optional_text (λ id. decimal id.0) c.reservation
    ∷ codes "config" ∷ decimal c.config.0
    ∷ codes "sections" ∷ list_text 43 (λ id. decimal id.0) c.sections
    ∷ [])

-- a student with the enrolments
abbrev pub schedule_text : ScheduleView → List ℕ
schedule_text v = line_text (
    codes "student" ∷ decimal v.student.0
    ∷ codes "credits" ∷ decimal v.credits
    ∷ codes "max" ∷ decimal v.max
    ∷ []) ++ flat_map choice_text v.held

-- an entry of the wait-list
abbrev pub wait_text : WaitView → List ℕ
wait_text w = line_text (
    codes "ticket" ∷ decimal w.ticket
    ∷ codes "student" ∷ decimal w.student.0
    ∷ codes "courses" ∷ list_text 43 (λ id. decimal id.0) w.courses
    ∷ codes "give" ∷ optional_text (λ id. decimal id.0) w.give
    ∷ [])

-- a request of which no course is held
abbrev pub unmet_text : UnmetView → List ℕ
unmet_text u = line_text (
    codes "student" ∷ decimal u.student.0
    ∷ codes "rank" ∷ decimal u.rank
    ∷ codes "courses" ∷ list_text 43 (λ id. decimal id.0) u.courses
    ∷ [])

-- the lines of a list, or one that says that there are none
abbrev pub listed_text : {A : Type 0} → (A → List ℕ) → List A → List ℕ
listed_text text [] = line_text (codes "none" ∷ [])
listed_text text (x ∷ xs) = flat_map text (x ∷ xs)

-- an id that nothing has
abbrev pub unknown_text : List ℕ → ℕ → List ℕ
unknown_text kind id = line_text (kind ∷ decimal id ∷ codes "unknown" ∷ [])
