-- The laws of the best whole schedule.
use Rattle.std.specs.Prelude.{◌≡◌, ℕ, suc, ◌+◌, ◌≤◌, Bool, true, false, not, List, [], ◌∷◌, ◌++◌, length, map, flat_map, refl, cond}
use Rattle.std.specs.List.{list_all}
use Rattle.std.specs.Option.{is_some}
use Rattle.std.proofs.Common.{sym, ◌∙◌, ap, subst, arith, append_assoc, append-nil}
use Rattle.sect_people.specs.Student.{find_student}
use Rattle.sect_model.specs.Data.{StudentId, Want, Choice}
use Rattle.sect_model.specs.declared.pick.Outcome.{Outcome}
use Rattle.sect_model.specs.declared.pick.Outcome.TheVariants.{Found, Blocked, Spent as over_budget}
use Rattle.sect_model.specs.World.{World, enrol, leave_all}
use Rattle.sect_model.specs.Kept.{KeptWorld}
use Rattle.sect_model.specs.Allowed.{is_allowed}
use Rattle.sect_model.specs.Move.{are_allowed, is_allowed_move}
use Rattle.sect_model.specs.Premises.{want_fits}
use Rattle.sect_model.specs.Batch.{asks_of}
use Rattle.sect_model.specs.Outcome.{outcome_of}
use Rattle.sect_model.specs.Settle.{found_in}
use Rattle.sect_model.specs.Visits.{full_of}
use Rattle.sect_model.proofs.Members.{both, both-left, both-right, not_both}
use Rattle.sect_model.proofs.KeptMoves.{found-allowed}
use Rattle.sect_model.proofs.OutcomeLemmas.{full-not-spent}
use Rattle.sect_model.proofs.RefutedLemmas.{blocked-refutes}
use Rattle.sect_best.specs.Plan.{course_asks, plan_move, planned, plan_ask, plan_asks, planned_by, tried_with, nothing_planned, line_then, lines_of, plan_lines}
use Rattle.sect_best.specs.Vector.{picked, is_greater, is_kept, is_spent, kept_vector, never_spent}
use Rattle.sect_best.specs.Laws.{EachHasALine, PlanIsAllowed, met_choice, LinesAreOfThePlan, UnmetIsRefuted, FullIsEnough, NoPlanIsGreater, RefutedTry, RefutedTries, CoversTries}
use Rattle.sect_best.specs.declared.line.PlanLine.{PlanLine}
use Rattle.sect_best.specs.declared.planned.Judged.{Judged}
use Rattle.sect_best.specs.declared.planned.Planned.{Planned}
use Rattle.sect_best.specs.declared.planned.Verdict.{Verdict}
use Rattle.sect_best.specs.declared.planned.Verdict.TheVariants.{Kept, Unmet, Spent}
use Rattle.sect_best.proofs.PlanLemmas.{wants-fit, plan-stands, fit-more, kept-fit, more-by-one}

-- ---- verdicts

-- the verdict by an outcome
abbrev verdict_of : Outcome → Verdict
verdict_of (Found choices visits) = Kept
verdict_of (Blocked tree visits) = Unmet tree visits
verdict_of (over_budget budget) = Spent

-- the outcome of the search for the wants tried
abbrev tried : World → StudentId → ℕ → Planned → Want → Outcome
tried w student budget p want = outcome_of w (plan_move w student (tried_with p want)) budget

-- the verdicts on later requests
abbrev later_verdicts : World → StudentId → ℕ → Planned → List Want → List Judged
later_verdicts w student budget p [] = []
later_verdicts w student budget p (want ∷ wants) =
    record { rank = want.rank; verdict = verdict_of (tried w student budget p want) } ∷ later_verdicts w student budget (plan_ask w student budget p want) wants

judged-by : (p : Planned) (wants : List Want) (rank : ℕ) (o : Outcome) → (planned_by p wants rank o).verdicts ≡ p.verdicts ++ record { rank = rank; verdict = verdict_of o } ∷ []
judged-by p wants rank (Found choices visits) = refl
judged-by p wants rank (Blocked tree visits) = refl
judged-by p wants rank (over_budget budget) = refl

verdicts-are : (w : World) (student : StudentId) (budget : ℕ) (wants : List Want) (p : Planned)
    → (plan_asks w student budget p wants).verdicts ≡ p.verdicts ++ later_verdicts w student budget p wants
verdicts-are w student budget [] p = sym (append-nil p.verdicts)
verdicts-are w student budget (want ∷ wants) p =
    let q = plan_ask w student budget p want in
    verdicts-are w student budget wants q
    ∙ ap (λ js. js ++ later_verdicts w student budget q wants) (judged-by p (tried_with p want) want.rank (tried w student budget p want))
    ∙ append_assoc p.verdicts (record { rank = want.rank; verdict = verdict_of (tried w student budget p want) } ∷ []) (later_verdicts w student budget q wants)

planned-verdicts : (w : World) (student : StudentId) (budget : ℕ)
    → (planned w student budget).verdicts ≡ later_verdicts w student budget nothing_planned (course_asks (asks_of w student))
unfolding planned
planned-verdicts w student budget = verdicts-are w student budget (course_asks (asks_of w student)) nothing_planned

-- ---- a front of a plan is a plan of the front

front-allowed : (w : World) (student : StudentId) (xs ys : List Want) (choices : List Choice) → are_allowed w student (xs ++ ys) choices ≡ true
    → (front : List Choice) × (are_allowed w student xs front ≡ true)
front-allowed w student [] ys choices h = ([], refl)
front-allowed w student (x ∷ xs) ys [] h = absurd (not_both false h refl)
front-allowed w student (x ∷ xs) ys (c ∷ cs) h =
    let rest = front-allowed (enrol w student c) student xs ys cs (both-right (is_allowed w student x c) _ h) in
    (c ∷ rest.0, both (is_allowed w student x c) _ (both-left _ (are_allowed (enrol w student c) student (xs ++ ys) cs) h) rest.1)

allowed-length : (w : World) (student : StudentId) (wants : List Want) (choices : List Choice) → are_allowed w student wants choices ≡ true → length choices ≡ length wants
allowed-length w student [] [] h = refl
allowed-length w student [] (c ∷ cs) h = absurd (not_both false h refl)
allowed-length w student (x ∷ xs) [] h = absurd (not_both false h refl)
allowed-length w student (x ∷ xs) (c ∷ cs) h = ap suc (allowed-length (enrol w student c) student xs cs (both-right (is_allowed w student x c) _ h))

-- ---- what is unmet is refuted

module _ (w : World) (student : StudentId) (budget : ℕ) (k : KeptWorld w) (known : is_some (find_student w.students student) ≡ true) where
  refuted-try : (wants : List Want) → list_all (want_fits w) wants ≡ true → (o : Outcome) → outcome_of w (plan_move w student wants) budget ≡ o → RefutedTry w student wants o
  refuted-try wants fit (Found choices visits) e = tt
  refuted-try wants fit (Blocked tree visits) e =
      blocked-refutes w (plan_move w student wants) budget visits tree (record { checked = k.rows_pass; reservations_differ = k.reservations_differ }) (plan-stands w student wants known fit) e
  refuted-try wants fit (over_budget spent) e = tt

  refuted-tries : (wants : List Want) (p : Planned) → list_all (want_fits w) p.kept ≡ true → list_all (want_fits w) wants ≡ true → RefutedTries w student budget p wants
  refuted-tries [] p kept fit = tt
  refuted-tries (want ∷ wants) p kept fit =
      let fits = both-left (want_fits w want) (list_all (want_fits w) wants) fit in (
        refuted-try (tried_with p want) (fit-more w p.kept want kept fits) (tried w student budget p want) refl,
        refuted-tries wants (plan_ask w student budget p want) (kept-fit w student budget p want kept fits) (both-right (want_fits w want) (list_all (want_fits w) wants) fit),
      )

  -- ---- no plan is greater

  -- what is said of the later requests, for one vector
  abbrev NoneGreater : List Want → List Bool → Planned → Type 0
  NoneGreater wants vector p =
      list_all (want_fits w) p.kept ≡ true → never_spent (later_verdicts w student budget p wants) ≡ true → (choices : List Choice)
      → is_allowed_move w (plan_move w student (p.kept ++ picked vector wants)) choices ≡ true
      → is_greater vector (kept_vector (later_verdicts w student budget p wants)) ≡ false

  -- the request is in the vector
  with-it : (want : Want) (wants : List Want) (vector : List Bool) → want_fits w want ≡ true → ((q : Planned) → NoneGreater wants vector q) → (p : Planned) → list_all (want_fits w) p.kept ≡ true
      → (choices : List Choice) → is_allowed_move w (plan_move w student (p.kept ++ want ∷ picked vector wants)) choices ≡ true
      → (o : Outcome) → tried w student budget p want ≡ o
      → never_spent (record { rank = want.rank; verdict = verdict_of o } ∷ later_verdicts w student budget (planned_by p (tried_with p want) want.rank o) wants) ≡ true
      → is_greater (true ∷ vector) (kept_vector (record { rank = want.rank; verdict = verdict_of o } ∷ later_verdicts w student budget (planned_by p (tried_with p want) want.rank o) wants)) ≡ false
  with-it want wants vector fits later p kept choices allowed (Found found visits) e never =
      later (planned_by p (tried_with p want) want.rank (Found found visits)) (fit-more w p.kept want kept fits) never choices
      (subst (λ xs. is_allowed_move w (plan_move w student xs) choices ≡ true) (sym (append_assoc p.kept (want ∷ []) (picked vector wants))) allowed)
  with-it want wants vector fits later p kept choices allowed (Blocked tree visits) e never =
      let all : is_allowed_move w (plan_move w student (tried_with p want ++ picked vector wants)) choices ≡ true =
      subst (λ xs. is_allowed_move w (plan_move w student xs) choices ≡ true) (sym (append_assoc p.kept (want ∷ []) (picked vector wants))) allowed in
      let mv = plan_move w student (tried_with p want) in
      let front = front-allowed (leave_all w student mv.give) student (tried_with p want) (picked vector wants) choices all in
      absurd (not_both (is_allowed_move w mv front.0) front.1 ((refuted-try (tried_with p want) (fit-more w p.kept want kept fits) (Blocked tree visits) e).1 front.0))
  with-it want wants vector fits later p kept choices allowed (over_budget spent) e never = absurd (not_both false never refl)

  -- the request is not in the vector
  without-it : (want : Want) (wants : List Want) (vector : List Bool) → ((q : Planned) → NoneGreater wants vector q) → (p : Planned) → list_all (want_fits w) p.kept ≡ true
      → (choices : List Choice) → is_allowed_move w (plan_move w student (p.kept ++ picked vector wants)) choices ≡ true
      → (o : Outcome)
      → never_spent (record { rank = want.rank; verdict = verdict_of o } ∷ later_verdicts w student budget (planned_by p (tried_with p want) want.rank o) wants) ≡ true
      → is_greater (false ∷ vector) (kept_vector (record { rank = want.rank; verdict = verdict_of o } ∷ later_verdicts w student budget (planned_by p (tried_with p want) want.rank o) wants)) ≡ false
  without-it want wants vector later p kept choices allowed (Found found visits) never = refl
  without-it want wants vector later p kept choices allowed (Blocked tree visits) never =
      later (planned_by p (tried_with p want) want.rank (Blocked tree visits)) kept never choices allowed
  without-it want wants vector later p kept choices allowed (over_budget spent) never = absurd (not_both false never refl)

  none-greater : (wants : List Want) → list_all (want_fits w) wants ≡ true → (vector : List Bool) (p : Planned) → NoneGreater wants vector p
  none-greater [] fit [] p kept never choices allowed = refl
  none-greater [] fit (b ∷ bs) p kept never choices allowed = refl
  none-greater (want ∷ wants) fit [] p kept never choices allowed = refl
  none-greater (want ∷ wants) fit (true ∷ vector) p kept never choices allowed =
      with-it want wants vector (both-left (want_fits w want) (list_all (want_fits w) wants) fit)
      (none-greater wants (both-right (want_fits w want) (list_all (want_fits w) wants) fit) vector) p kept choices allowed (tried w student budget p want) refl never
  none-greater (want ∷ wants) fit (false ∷ vector) p kept never choices allowed =
      without-it want wants vector (none-greater wants (both-right (want_fits w want) (list_all (want_fits w) wants) fit) vector) p kept choices allowed (tried w student budget p want) never

pub unmet-is-refuted : UnmetIsRefuted
unmet-is-refuted w student budget k known = refuted-tries w student budget k known (course_asks (asks_of w student)) nothing_planned refl (wants-fit w k student)

pub no-plan-is-greater : NoPlanIsGreater
no-plan-is-greater w student budget k known never vector choices allowed =
    let wants = course_asks (asks_of w student) in
    let verdicts = planned-verdicts w student budget in
    ap (λ js. is_greater vector (kept_vector js)) verdicts
    ∙ none-greater w student budget k known wants (wants-fit w k student) vector nothing_planned refl (ap never_spent (sym verdicts) ∙ never) choices allowed

-- ---- a budget of all paths is enough

not-spent : (w : World) (student : StudentId) (budget : ℕ) (wants : List Want) → full_of w (plan_move w student wants) ≤ budget
    → (o : Outcome) → outcome_of w (plan_move w student wants) budget ≡ o → not (is_spent (verdict_of o)) ≡ true
not-spent w student budget wants full (Found choices visits) e = refl
not-spent w student budget wants full (Blocked tree visits) e = refl
not-spent w student budget wants full (over_budget spent) e = absurd (full-not-spent w (plan_move w student wants) budget spent full e)

none-spent : (w : World) (student : StudentId) (budget : ℕ) (wants : List Want) (p : Planned) → CoversTries w student budget p wants
    → never_spent (later_verdicts w student budget p wants) ≡ true
none-spent w student budget [] p h = refl
none-spent w student budget (want ∷ wants) p h =
    both (not (is_spent (verdict_of (tried w student budget p want)))) _ (not-spent w student budget (tried_with p want) h.0 (tried w student budget p want) refl)
    (none-spent w student budget wants (plan_ask w student budget p want) h.1)

pub full-is-enough : FullIsEnough
full-is-enough w student budget h = ap never_spent (planned-verdicts w student budget) ∙ none-spent w student budget (course_asks (asks_of w student)) nothing_planned h

-- ---- each request has its line

-- how many are kept
abbrev kept_in : List Judged → ℕ
kept_in [] = 0
kept_in (j ∷ js) = cond (is_kept j.verdict) (kept_in js + 1) (kept_in js)

kept-append : (js ls : List Judged) → kept_in (js ++ ls) ≡ kept_in js + kept_in ls
kept-append [] ls = sym (omega arith)
kept-append (j ∷ js) ls = by_kept (is_kept j.verdict) (kept-append js ls)
  where
    by_kept : (b : Bool) → kept_in (js ++ ls) ≡ kept_in js + kept_in ls → cond b (kept_in (js ++ ls) + 1) (kept_in (js ++ ls)) ≡ cond b (kept_in js + 1) (kept_in js) + kept_in ls
    by_kept true h = omega (arith, h)
    by_kept false h = h

line-ranks : (rank : ℕ) (v : Verdict) (choices : List Choice) (js : List Judged)
    → ((left : List Choice) → kept_in js ≡ length left → map (λ l. l.rank) (lines_of left js) ≡ map (λ j. j.rank) js)
    → cond (is_kept v) (kept_in js + 1) (kept_in js) ≡ length choices
    → map (λ (l : PlanLine). l.rank) (line_then rank v choices (λ left. lines_of left js)) ≡ rank ∷ map (λ j. j.rank) js
line-ranks rank Kept [] js later h = absurd (omega (arith, h))
line-ranks rank Kept (c ∷ cs) js later h = ap (λ ranks. rank ∷ ranks) (later cs (omega (arith, h)))
line-ranks rank (Unmet tree visits) choices js later h = ap (λ ranks. rank ∷ ranks) (later choices h)
line-ranks rank Spent choices js later h = ap (λ ranks. rank ∷ ranks) (later choices h)

lines-ranks : (js : List Judged) (choices : List Choice) → kept_in js ≡ length choices → map (λ l. l.rank) (lines_of choices js) ≡ map (λ j. j.rank) js
lines-ranks [] choices h = refl
lines-ranks (j ∷ js) choices h = line-ranks j.rank j.verdict choices js (lines-ranks js) h

verdict-ranks : (w : World) (student : StudentId) (budget : ℕ) (wants : List Want) (p : Planned)
    → map (λ j. j.rank) (later_verdicts w student budget p wants) ≡ map (λ a. a.rank) wants
verdict-ranks w student budget [] p = refl
verdict-ranks w student budget (want ∷ wants) p = ap (λ ranks. want.rank ∷ ranks) (verdict-ranks w student budget wants (plan_ask w student budget p want))

-- the plan has a choice for each want kept, and each of these has its verdict
pub record IsCounted (p : Planned) : Type 0 where
  pub plan : length p.plan ≡ length p.kept
  pub kept : kept_in p.verdicts ≡ length p.kept

counted-by : (w : World) (student : StudentId) (budget : ℕ) (p : Planned) (want : Want) → IsCounted p → (o : Outcome)
    → outcome_of w (plan_move w student (tried_with p want)) budget ≡ o → IsCounted (planned_by p (tried_with p want) want.rank o)
counted-by w student budget p want h (Found choices visits) e = record {
  plan = allowed-length (leave_all w student (plan_move w student (tried_with p want)).give) student (tried_with p want) choices
      (found-allowed w (plan_move w student (tried_with p want)) budget choices (ap found_in e));
  kept = kept-append p.verdicts (record { rank = want.rank; verdict = Kept } ∷ []) ∙ ap (λ n. n + 1) h.kept ∙ sym (more-by-one p.kept want);
}
counted-by w student budget p want h (Blocked tree visits) e = record {
  plan = h.plan;
  kept = kept-append p.verdicts (record { rank = want.rank; verdict = Unmet tree visits } ∷ []) ∙ none (kept_in p.verdicts) ∙ h.kept;
}
  where
    none : (n : ℕ) → n + 0 ≡ n
    none n = omega arith
counted-by w student budget p want h (over_budget spent) e = record {
  plan = h.plan;
  kept = kept-append p.verdicts (record { rank = want.rank; verdict = Spent } ∷ []) ∙ none (kept_in p.verdicts) ∙ h.kept;
}
  where
    none : (n : ℕ) → n + 0 ≡ n
    none n = omega arith

counted : (w : World) (student : StudentId) (budget : ℕ) (wants : List Want) (p : Planned) → IsCounted p → IsCounted (plan_asks w student budget p wants)
counted w student budget [] p h = h
counted w student budget (want ∷ wants) p h =
    counted w student budget wants (plan_ask w student budget p want) (counted-by w student budget p want h (tried w student budget p want) refl)

-- there are as many choices as requests kept
planned-counted : (w : World) (student : StudentId) (budget : ℕ) → kept_in (planned w student budget).verdicts ≡ length (planned w student budget).plan
unfolding planned
planned-counted w student budget =
    let h = counted w student budget (course_asks (asks_of w student)) nothing_planned (record { plan = refl; kept = refl }) in
    h.kept ∙ sym h.plan

pub each-has-a-line : EachHasALine
unfolding planned plan_lines
each-has-a-line w student budget =
    let wants = course_asks (asks_of w student) in
    let p = plan_asks w student budget nothing_planned wants in
    lines-ranks p.verdicts p.plan (planned-counted w student budget) ∙ ap (map (λ j. j.rank)) (verdicts-are w student budget wants nothing_planned) ∙ verdict-ranks w student budget wants nothing_planned

-- ---- the lines have the choices of the plan

line-met : (rank : ℕ) (v : Verdict) (choices : List Choice) (js : List Judged)
    → ((left : List Choice) → kept_in js ≡ length left → flat_map (λ l. met_choice l.result) (lines_of left js) ≡ left)
    → cond (is_kept v) (kept_in js + 1) (kept_in js) ≡ length choices
    → flat_map (λ (l : PlanLine). met_choice l.result) (line_then rank v choices (λ left. lines_of left js)) ≡ choices
line-met rank Kept [] js later h = absurd (omega (arith, h))
line-met rank Kept (c ∷ cs) js later h = ap (λ xs. c ∷ xs) (later cs (omega (arith, h)))
line-met rank (Unmet tree visits) choices js later h = later choices h
line-met rank Spent choices js later h = later choices h

lines-met : (js : List Judged) (choices : List Choice) → kept_in js ≡ length choices → flat_map (λ l. met_choice l.result) (lines_of choices js) ≡ choices
lines-met [] [] h = refl
lines-met [] (c ∷ cs) h = absurd (omega (arith, h))
lines-met (j ∷ js) choices h = line-met j.rank j.verdict choices js (lines-met js) h

pub lines-of-the-plan : LinesAreOfThePlan
unfolding plan_lines
lines-of-the-plan w student budget = lines-met (planned w student budget).verdicts (planned w student budget).plan (planned-counted w student budget)

-- ---- the plan is an allowed move

-- the plan so far is an allowed move of the wants kept
abbrev IsPlan : World → StudentId → Planned → Type 0
IsPlan w student p = is_allowed_move w (plan_move w student p.kept) p.plan ≡ true

allowed-by : (w : World) (student : StudentId) (budget : ℕ) (p : Planned) (want : Want) → IsPlan w student p → (o : Outcome)
    → outcome_of w (plan_move w student (tried_with p want)) budget ≡ o → IsPlan w student (planned_by p (tried_with p want) want.rank o)
allowed-by w student budget p want h (Found choices visits) e = found-allowed w (plan_move w student (tried_with p want)) budget choices (ap found_in e)
allowed-by w student budget p want h (Blocked tree visits) e = h
allowed-by w student budget p want h (over_budget spent) e = h

all-allowed : (w : World) (student : StudentId) (budget : ℕ) (wants : List Want) (p : Planned) → IsPlan w student p → IsPlan w student (plan_asks w student budget p wants)
all-allowed w student budget [] p h = h
all-allowed w student budget (want ∷ wants) p h =
    all-allowed w student budget wants (plan_ask w student budget p want) (allowed-by w student budget p want h (tried w student budget p want) refl)

pub plan-is-allowed : PlanIsAllowed
unfolding planned
plan-is-allowed w student budget = all-allowed w student budget (course_asks (asks_of w student)) nothing_planned refl
