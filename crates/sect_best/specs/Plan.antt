-- The best whole schedule of a student: the course requests are taken one after the other, and each is kept where there is a plan with it.
use Rattle.std.specs.Prelude.{ℕ, ◌+◌, List, [], ◌∷◌, ◌++◌, map, Option}
use Rattle.std.specs.Option.{option_map}
use Rattle.sect_people.specs.Student.{find_student}
use Rattle.sect_people.specs.declared.row.Ask.TheVariants.{Course as asks_course, Free}
use Rattle.sect_model.specs.Data.{StudentId, Want, Move, Choice, Ask}
use Rattle.sect_model.specs.declared.pick.Outcome.{Outcome}
use Rattle.sect_model.specs.declared.pick.Outcome.TheVariants.{Found, Blocked, Spent as over_budget}
use Rattle.sect_model.specs.World.{World, held_by}
use Rattle.sect_model.specs.Batch.{asks_of, want_of}
use Rattle.sect_model.specs.Outcome.{outcome_of}
use Rattle.sect_best.specs.declared.line.PlanLine.{PlanLine}
use Rattle.sect_best.specs.declared.line.PlanResult.TheVariants.{Met, Unmet as unmet_line, Spent as spent_line}
use Rattle.sect_best.specs.declared.planned.Judged.{Judged}
use Rattle.sect_best.specs.declared.planned.Planned.{Planned}
use Rattle.sect_best.specs.declared.planned.Verdict.{Verdict}
use Rattle.sect_best.specs.declared.planned.Verdict.TheVariants.{Kept, Unmet, Spent}

-- the want of each course request, whose rank is its position from a number on
abbrev pub asks_from : ℕ → List Ask → List Want
asks_from rank [] = []
asks_from rank (asks_course ask ∷ asks) = want_of ask rank ∷ asks_from (rank + 1) asks
asks_from rank (Free pattern ∷ asks) = asks_from (rank + 1) asks

-- each course request with its position, as a want
abbrev pub course_asks : List Ask → List Want
course_asks asks = asks_from 1 asks

-- the move that gives up all that the student holds, and takes these wants; a plan of them is an allowed move of it
abbrev pub plan_move : World → StudentId → List Want → Move
plan_move w student wants = record { student = student; give = map (λ e. e.choice.course) (held_by w student); take = wants }

-- before the first request
abbrev pub nothing_planned : Planned
nothing_planned = record { kept = []; plan = []; verdicts = [] }

-- the verdicts with one more
abbrev pub judged_also : List Judged → ℕ → Verdict → List Judged
judged_also verdicts rank verdict = verdicts ++ record { rank = rank; verdict = verdict } ∷ []

-- by the outcome of the search for the wants that were tried, the kept ones and the request's at their end: found, they are kept, and this is their plan
abbrev pub planned_by : Planned → List Want → ℕ → Outcome → Planned
planned_by p tried rank (Found choices visits) = record { kept = tried; plan = choices; verdicts = judged_also p.verdicts rank Kept }
planned_by p tried rank (Blocked tree visits) = record p { verdicts = judged_also p.verdicts rank (Unmet tree visits) }
planned_by p tried rank (over_budget budget) = record p { verdicts = judged_also p.verdicts rank Spent }

-- the wants that are tried with a request: the kept ones, and the request's at their end
abbrev pub tried_with : Planned → Want → List Want
tried_with p want = p.kept ++ want ∷ []

-- what is planned with a request more
abbrev pub plan_ask : World → StudentId → ℕ → Planned → Want → Planned
plan_ask w student budget p want =
    planned_by p (tried_with p want) want.rank (outcome_of w (plan_move w student (tried_with p want)) budget)

-- what is planned with each request in turn
abbrev pub plan_asks : World → StudentId → ℕ → Planned → List Want → Planned
plan_asks w student budget p [] = p
plan_asks w student budget p (want ∷ wants) = plan_asks w student budget (plan_ask w student budget p want) wants

-- what is planned of the student's course requests
unfoldable pub planned : World → StudentId → ℕ → Planned
planned w student budget = plan_asks w student budget nothing_planned (course_asks (asks_of w student))

-- the line of a verdict, and the lines behind it by what is left of the plan, which has a choice for each kept request
abbrev pub line_then : ℕ → Verdict → List Choice → (List Choice → List PlanLine) → List PlanLine
line_then rank Kept [] later = []
line_then rank Kept (choice ∷ choices) later = record { rank = rank; result = Met choice } ∷ later choices
line_then rank (Unmet tree visits) choices later = record { rank = rank; result = unmet_line tree visits } ∷ later choices
line_then rank Spent choices later = record { rank = rank; result = spent_line } ∷ later choices

-- a line for each verdict: the kept requests take the choices of the plan in turn
abbrev pub lines_of : List Choice → List Judged → List PlanLine
lines_of choices [] = []
lines_of choices (j ∷ js) = line_then j.rank j.verdict choices (λ left. lines_of left js)

-- the lines of the student's course requests, by position
unfoldable pub plan_lines : World → StudentId → ℕ → List PlanLine
plan_lines w student budget = lines_of (planned w student budget).plan (planned w student budget).verdicts

-- the lines of a student, none where the student is unknown
abbrev pub plan_of : World → StudentId → ℕ → Option (List PlanLine)
plan_of w student budget = option_map (λ s. plan_lines w student budget) (find_student w.students student)
