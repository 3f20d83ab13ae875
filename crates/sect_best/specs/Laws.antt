-- What follows from the definition of the best whole schedule.
use Rattle.std.specs.Prelude.{◌≡◌, ℕ, ◌≤◌, false, Bool, List, [], ◌∷◌, map, filter, flat_map, not, ◌==◌, IsTrue, ⊤}
use Rattle.std.specs.Option.{is_some}
use Rattle.sect_people.specs.Student.{find_student}
use Rattle.sect_model.specs.Data.{StudentId, Want, Choice}
use Rattle.sect_model.specs.World.{World, held_by, leave_all}
use Rattle.sect_model.specs.Kept.{KeptWorld}
use Rattle.sect_model.specs.Move.{is_allowed_move}
use Rattle.sect_model.specs.Refuted.{Refuted}
use Rattle.sect_model.specs.Visits.{full_of}
use Rattle.sect_model.specs.Batch.{asks_of}
use Rattle.sect_model.specs.Outcome.{outcome_of}
use Rattle.sect_model.specs.declared.pick.Outcome.{Outcome}
use Rattle.sect_model.specs.declared.pick.Outcome.TheVariants.{Found, Blocked, Spent}
use Rattle.sect_best.specs.Plan.{course_asks, plan_move, plan_ask, planned, plan_lines, tried_with, nothing_planned}
use Rattle.sect_best.specs.Vector.{picked, is_greater, kept_vector, never_spent}
use Rattle.sect_best.specs.declared.line.PlanResult.{PlanResult}
use Rattle.sect_best.specs.declared.line.PlanResult.TheVariants.{Met, Unmet, Spent as spent_line}
use Rattle.sect_best.specs.declared.planned.Planned.{Planned}

-- the world in which all that the student holds is given up is the world without the student's enrolments
abbrev pub LeavesAll : Type 0
LeavesAll =
    (w : World) (student : StudentId) → leave_all w student (map (λ e. e.choice.course) (held_by w student))
    ≡ record w { roster = filter (λ e. not (e.student.0 == student.0)) w.roster }

-- each course request has its line, by position
abbrev pub EachHasALine : Type 0
EachHasALine =
    (w : World) (student : StudentId) (budget : ℕ)
    → map (λ l. l.rank) (plan_lines w student budget) ≡ map (λ a. a.rank) (course_asks (asks_of w student))

-- the plan is an allowed move of the requests kept, in the world without the student's enrolments
abbrev pub PlanIsAllowed : Type 0
PlanIsAllowed =
    (w : World) (student : StudentId) (budget : ℕ)
    → IsTrue (is_allowed_move w (plan_move w student (planned w student budget).kept) (planned w student budget).plan)

-- the choice of a request that is met, and none of another
abbrev pub met_choice : PlanResult → List Choice
met_choice (Met choice) = choice ∷ []
met_choice (Unmet tree visits) = []
met_choice spent_line = []

-- the choices of the lines, in order, are the plan's
abbrev pub LinesAreOfThePlan : Type 0
LinesAreOfThePlan =
    (w : World) (student : StudentId) (budget : ℕ)
    → flat_map (λ l. met_choice l.result) (plan_lines w student budget) ≡ (planned w student budget).plan

-- where the search is blocked, its tree refutes the move of the wants tried
abbrev pub RefutedTry : World → StudentId → List Want → Outcome → Type 0
RefutedTry w student tried (Found choices visits) = ⊤
RefutedTry w student tried (Blocked tree visits) = Refuted w (plan_move w student tried) tree
RefutedTry w student tried (Spent budget) = ⊤

-- each request that is unmet is refuted beside the requests kept before it
abbrev pub RefutedTries : World → StudentId → ℕ → Planned → List Want → Type 0
RefutedTries w student budget p [] = ⊤
RefutedTries w student budget p (want ∷ wants) =
    RefutedTry w student (tried_with p want) (outcome_of w (plan_move w student (tried_with p want)) budget)
    × RefutedTries w student budget (plan_ask w student budget p want) wants

-- an unmet request's tree covers the path with no decision, and the requests kept before it and it have no plan
abbrev pub UnmetIsRefuted : Type 0
UnmetIsRefuted =
    (w : World) (student : StudentId) (budget : ℕ) → KeptWorld w → IsTrue (is_some (find_student w.students student))
    → RefutedTries w student budget nothing_planned (course_asks (asks_of w student))

-- the budget is enough for all paths of each list that is tried
abbrev pub CoversTries : World → StudentId → ℕ → Planned → List Want → Type 0
CoversTries w student budget p [] = ⊤
CoversTries w student budget p (want ∷ wants) =
    (full_of w (plan_move w student (tried_with p want)) ≤ budget)
    × CoversTries w student budget (plan_ask w student budget p want) wants

-- a budget of all paths is never spent
abbrev pub FullIsEnough : Type 0
FullIsEnough =
    (w : World) (student : StudentId) (budget : ℕ) → CoversTries w student budget nothing_planned (course_asks (asks_of w student))
    → IsTrue (never_spent (planned w student budget).verdicts)

-- where no request has passed the budget, no list of requests that has a plan has a greater vector
abbrev pub NoPlanIsGreater : Type 0
NoPlanIsGreater =
    (w : World) (student : StudentId) (budget : ℕ) → KeptWorld w → IsTrue (is_some (find_student w.students student))
    → IsTrue (never_spent (planned w student budget).verdicts) → (vector : List Bool) (choices : List Choice)
    → IsTrue (is_allowed_move w (plan_move w student (picked vector (course_asks (asks_of w student)))) choices)
    → is_greater vector (kept_vector (planned w student budget).verdicts) ≡ false
