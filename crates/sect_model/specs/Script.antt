-- Scripts of commands and what they are answered, in few words, for the worked examples.
use Rattle.std.specs.Prelude.{◌≡◌, ℕ, Bool, true, false, List, [], ◌∷◌, map, Option, Some, None}
use Rattle.std.specs.Option.{option_map}
use Rattle.sect_base.specs.declared.choice.Curriculum.{Curriculum}
use Rattle.sect_base.specs.declared.limit.Limit.TheVariants.{Unlimited}
use Rattle.sect_base.specs.declared.limit.Caller.TheVariants.{Registrar, Student as by_student}
use Rattle.sect_base.specs.Tree.{Tree, broken, split, trees_of}
use Rattle.sect_people.specs.declared.row.Ask.TheVariants.{Course as asks_course}
use Rattle.sect_reserve.specs.declared.row.Audience.TheVariants.{Students, Group, Curriculum as of_curriculum, Course as of_course}
use Rattle.sect_command.specs.declared.command.Command.{Command}
use Rattle.sect_command.specs.declared.command.Command.TheVariants.{Offering, Student as student_row, Requests, Restrict, Enrol, Drop, Swap, Wait, Unwait, Batch}
use Rattle.sect_command.specs.declared.command.ReserveRow.{ReserveRow}
use Rattle.sect_command.specs.declared.reply.Reply.{Reply}
use Rattle.sect_command.specs.declared.reply.Line.{Line}
use Rattle.sect_command.specs.declared.reply.LineResult.{LineResult}
use Rattle.sect_command.specs.declared.view.HeldView.{HeldView}
use Rattle.sect_model.specs.Data.{Caller, StudentId, CourseId, ConfigId, SectionId, ReservationId, OfferingId, Limit, Pattern, CourseRow, ConfigRow, SubpartRow, SectionRow, Audience, Ask, Want, Choice, Move, Rule}
use Rattle.sect_model.specs.World.{World, State, empty_state}
use Rattle.sect_model.specs.Covers.{covers}
use Rattle.sect_model.specs.Step.{step}
use Rattle.sect_model.specs.Look.{look}
use Rattle.sect_command.specs.declared.view.Query.{Query}
use Rattle.sect_command.specs.declared.view.View.{View}

-- ---- runs

-- a command, who gives it and on which day
pub record Request : Type 0 where
  pub day : ℕ
  pub caller : Caller
  pub command : Command

-- 2025-09-01
abbrev pub today : ℕ
today = 20332

abbrev pub registrar : Command → Request
registrar command = record { day = today; caller = Registrar 1; command = command }

abbrev pub student : ℕ → Command → Request
student n command = record { day = today; caller = by_student (record { 0 = n }); command = command }

abbrev pub on : ℕ → Request → Request
on day r = record { day = day; caller = r.caller; command = r.command }

abbrev pub replies_from : State → List Request → List Reply
replies_from s [] = []
replies_from s (r ∷ rs) = (step s r.day r.caller r.command).reply ∷ replies_from (step s r.day r.caller r.command).state rs

abbrev pub state_from : State → List Request → State
state_from s [] = s
state_from s (r ∷ rs) = state_from (step s r.day r.caller r.command).state rs

-- on the empty desk the requests are answered so
abbrev pub Answers : List (Request × Reply) → Type 0
Answers lines = replies_from empty_state (map (λ l. l.0) lines) ≡ map (λ l. l.1) lines

-- the state that requests leave, on the empty desk
abbrev pub state_after : List Request → State
state_after requests = state_from empty_state requests

-- the queries are answered so
abbrev pub Looks : State → List (Query × View) → Type 0
Looks s views = map (λ v. look s v.0) views ≡ map (λ v. v.1) views

-- whether the trees cover the move's path without decisions
abbrev pub Covering : World → Move → List (Tree × Bool) → Type 0
Covering w mv trees = map (λ t. covers w mv t.0) trees ≡ map (λ t. t.1) trees

-- ---- rows

abbrev pub course_id : ℕ → CourseId
course_id n = record { 0 = n }

abbrev pub config_id : ℕ → ConfigId
config_id n = record { 0 = n }

abbrev pub section_id : ℕ → SectionId
section_id n = record { 0 = n }

abbrev pub student_id : ℕ → StudentId
student_id n = record { 0 = n }

abbrev pub reservation_id : ℕ → ReservationId
reservation_id n = record { 0 = n }

abbrev pub offering_id : ℕ → OfferingId
offering_id n = record { 0 = n }

abbrev pub course : ℕ → Limit → ℕ → CourseRow
course n limit credits = record { id = record { 0 = n }; limit = limit; credits = credits }

abbrev pub section : ℕ → Limit → Option ℕ → List Pattern → SectionRow
section n limit parent meetings = record { id = record { 0 = n }; limit = limit; parent = option_map section_id parent; meetings = meetings }

abbrev pub subpart : ℕ → List SectionRow → SubpartRow
subpart n sections = record { id = record { 0 = n }; sections = sections }

abbrev pub config : ℕ → Limit → List SubpartRow → ConfigRow
config n limit subparts = record { id = record { 0 = n }; limit = limit; subparts = subparts }

abbrev pub offering : ℕ → List CourseRow → List ConfigRow → Command
offering n courses configs = Offering (record { id = record { 0 = n }; courses = courses; configs = configs })

-- an offering with one course of three credits, one configuration and one subpart of its number, and one section
abbrev pub one_section : ℕ → ℕ → Limit → List Pattern → Command
one_section n s limit meetings =
    offering n (course n Unlimited 3 ∷ []) (config n Unlimited (subpart n (section s limit None meetings ∷ []) ∷ []) ∷ [])

-- a meeting by weekdays (1 Monday), first slot of five minutes, slots, and weeks (1 the first)
abbrev pub meets : ℕ → ℕ → ℕ → ℕ → Pattern
meets days start slots weeks = record { days = days; start = start; slots = slots; weeks = weeks }

abbrev pub curriculum : ℕ → ℕ → List ℕ → Curriculum
curriculum area class majors = record { area = record { 0 = area }; class = record { 0 = class }; majors = map (λ m. record { 0 = m }) majors }

-- a student with a maximum of credits
abbrev pub put_student : ℕ → ℕ → List ℕ → List Curriculum → Command
put_student n max groups curricula = student_row (record { id = record { 0 = n }; max_credits = max; groups = map (λ g. record { 0 = g }) groups; curricula = curricula })

-- ---- reservations and restrictions

abbrev pub students : List ℕ → Audience
students ns = Students (map student_id ns)

abbrev pub group : ℕ → Audience
group n = Group (record { 0 = n })

abbrev pub curricula : ℕ → List ℕ → List ℕ → Audience
curricula area classes majors = of_curriculum (record { 0 = area }) (map (λ c. record { 0 = c }) classes) (map (λ m. record { 0 = m }) majors)

abbrev pub course_audience : ℕ → Audience
course_audience n = of_course (record { 0 = n })

-- a reservation without days, that lists nothing and permits nothing
abbrev pub reservation : ℕ → ℕ → Audience → Limit → ReserveRow
reservation id offering audience limit = record {
  id = record { 0 = id };
  offering = record { 0 = offering };
  audience = audience;
  limit = limit;
  first = None;
  expiry = None;
  configs = [];
  sections = [];
  over = false;
  overlap = false;
  must = false;
}

abbrev pub from : ℕ → ReserveRow → ReserveRow
from day r = record r { first = Some day }

abbrev pub until : ℕ → ReserveRow → ReserveRow
until day r = record r { expiry = Some day }

abbrev pub listing : List ℕ → List ℕ → ReserveRow → ReserveRow
listing configs sections r = record r { configs = map config_id configs; sections = map section_id sections }

abbrev pub over_limit : ReserveRow → ReserveRow
over_limit r = record r { over = true }

abbrev pub overlapping : ReserveRow → ReserveRow
overlapping r = record r { overlap = true }

abbrev pub obligatory : ReserveRow → ReserveRow
obligatory r = record r { must = true }

abbrev pub restrict : ℕ → ℕ → Audience → List ℕ → List ℕ → Command
restrict id offering audience configs sections = Restrict (record {
  id = record { 0 = id };
  offering = record { 0 = offering };
  audience = audience;
  configs = map config_id configs;
  sections = map section_id sections;
})

-- ---- what students ask

abbrev pub ask : List ℕ → Bool → Bool → Ask
ask courses wait substitute = asks_course (record { courses = map course_id courses; wait = wait; substitute = substitute })

abbrev pub requests : ℕ → List Ask → Command
requests n asks = Requests (record { 0 = n }) asks

-- one of the courses, in these sections alone where the list isn't empty
abbrev pub want : List ℕ → List ℕ → ℕ → Want
want courses only rank = record { courses = map course_id courses; only = map section_id only; rank = rank }

-- one course in any of its sections, after all free times
abbrev pub any_of : ℕ → Want
any_of n = want (n ∷ []) [] 21

abbrev pub enrol : ℕ → Want → ℕ → Command
enrol n w budget = Enrol (record { 0 = n }) w budget

abbrev pub drop : ℕ → ℕ → Command
drop n c = Drop (record { 0 = n }) (record { 0 = c })

abbrev pub swap : ℕ → List ℕ → List Want → ℕ → Command
swap n give take budget = Swap (record { 0 = n }) (map course_id give) take budget

abbrev pub wait : ℕ → Want → Option ℕ → ℕ → Command
wait n w give class = Wait (record { 0 = n }) w (option_map course_id give) class

abbrev pub unwait : ℕ → ℕ → Command
unwait n ticket = Unwait (record { 0 = n }) ticket

abbrev pub batch : List ℕ → Command
batch ns = Batch (map student_id ns)

-- ---- answers

-- a course, a reservation or none, a configuration and sections
abbrev pub choice : ℕ → Option ℕ → ℕ → List ℕ → Choice
choice c r g ss = record { course = record { 0 = c }; reservation = option_map reservation_id r; config = record { 0 = g }; sections = map section_id ss }

abbrev pub leaf : Rule → ℕ → Tree
leaf rule number = broken rule number

abbrev pub each : List Tree → Tree
each ts = split (trees_of ts)

abbrev pub line : ℕ → ℕ → LineResult → Line
line n rank result = record { student = record { 0 = n }; rank = rank; result = result }

abbrev pub held : ℕ → ℕ → Option ℕ → HeldView
held n c r = record { student = record { 0 = n }; course = record { 0 = c }; reservation = option_map reservation_id r }
