-- The wants of course requests fit, and so do those that are kept.
use Rattle.std.specs.Prelude.{◌≡◌, ℕ, ◌+◌, ◌≤◌, Bool, true, false, ◌&&◌, ◌==◌, nat_lt, List, [], ◌∷◌, ◌++◌, length, find, Option, Some, None, Result, Ok, Err, IfOk, refl}
use Rattle.std.specs.List.{list_all}
use Rattle.std.specs.Bool.{then_some}
use Rattle.std.specs.Option.{is_some, is_none, option_map, option_map_or, option_or}
use Rattle.std.proofs.Common.{sym, ◌∙◌, ap, arith, length-append}
use Rattle.std.proofs.lemmas.Bool.Decides.{nat_tests}
use Rattle.sect_base.specs.Capped.{capped}
use Rattle.sect_people.specs.Student.{Student, find_student}
use Rattle.sect_people.specs.Fault as requests
use Rattle.sect_people.specs.declared.row.RequestFault.TheVariants.{UnknownCourse, Twice, TooMany}
use Rattle.sect_people.specs.declared.row.Ask.{Ask}
use Rattle.sect_people.specs.declared.row.Ask.TheVariants.{Course as asks_course, Free}
use Rattle.sect_model.specs.Data.{StudentId, Want}
use Rattle.sect_model.specs.declared.pick.Outcome.{Outcome}
use Rattle.sect_model.specs.declared.pick.Outcome.TheVariants.{Found, Blocked, Spent}
use Rattle.sect_model.specs.World.{World, course_ids}
use Rattle.sect_model.specs.Kept.{KeptWorld, asks_pass}
use Rattle.sect_model.specs.Stands.{MoveStands}
use Rattle.sect_model.specs.Premises.{courses_known, sections_known, is_sized, want_fits}
use Rattle.sect_model.specs.Batch.{asks_of, want_of}
use Rattle.sect_model.specs.Outcome.{outcome_of}
use Rattle.sect_model.proofs.Members
use Rattle.sect_model.proofs.Members.{all-of, all-at, both, both-left, both-right, not_both}
use Rattle.sect_model.proofs.OfferingChange.{none-left, none-right, none-map}
use Rattle.sect_model.proofs.BatchLemmas.{ask_fits, asks-fit}
use Rattle.sect_model.proofs.TurnLemmas.{all-append}
use Rattle.sect_best.specs.Plan.{asks_from, course_asks, plan_move, plan_ask, plan_asks, planned_by, tried_with, nothing_planned, planned, lines_of, plan_lines}
use Rattle.sect_best.specs.declared.line.PlanLine.{PlanLine}
use Rattle.sect_best.specs.Told.{AreTold}
use Rattle.sect_best.specs.declared.planned.Planned.{Planned}

-- ---- the wants of requests

asks-fit-from : (w : World) (rank : ℕ) (asks : List Ask) → list_all (ask_fits w) asks ≡ true → list_all (want_fits w) (asks_from rank asks) ≡ true
asks-fit-from w rank [] h = refl
asks-fit-from w rank (asks_course ask ∷ asks) h =
    both (want_fits w (want_of ask rank)) (list_all (want_fits w) (asks_from (rank + 1) asks)) (both-left (want_fits w (want_of ask 0)) (list_all (ask_fits w) asks) h)
    (asks-fit-from w (rank + 1) asks (both-right (want_fits w (want_of ask 0)) (list_all (ask_fits w) asks) h))
asks-fit-from w rank (Free pattern ∷ asks) h = asks-fit-from w (rank + 1) asks h

-- the wants of a student's course requests fit
pub wants-fit : (w : World) → KeptWorld w → (student : StudentId) → list_all (want_fits w) (course_asks (asks_of w student)) ≡ true
wants-fit w k student = asks-fit-from w 1 (asks_of w student) (asks-fit w k student)

-- a student has at most 20 requests
pub few-asks : (w : World) → KeptWorld w → (student : StudentId) → length (asks_of w student) ≤ 20
few-asks w k student = by_found (find_student w.students student) refl
  where
    few : (n : ℕ) → nat_lt 20 n ≡ false → n ≤ 20
    few n h = grind (arith, nat_tests, h)

    not_said : (b : Bool) (n : ℕ) → is_none (then_some b n) ≡ true → b ≡ false
    not_said true n h = absurd (not_both false h refl)
    not_said false n h = refl

    passed : (asks : List Ask) → is_none (requests.fault_of asks (course_ids w)) ≡ true → length asks ≤ 20
    passed asks h =
        let counts = option_or (then_some (nat_lt 20 (length asks)) (length asks)) (requests.first_bad_length asks) in
        let rest = none-right (option_map (λ c. UnknownCourse c.0) (find (requests.is_unknown (course_ids w)) (requests.courses_of_all asks))) (option_or (option_map Twice (requests.repeated_after [] (requests.courses_of_all asks))) (option_map (λ n. TooMany (capped n)) counts)) h in
        let sizes = none-right (option_map Twice (requests.repeated_after [] (requests.courses_of_all asks))) (option_map (λ n. TooMany (capped n)) counts) rest in
        few (length asks) (not_said (nat_lt 20 (length asks)) (length asks)
        (none-left (then_some (nat_lt 20 (length asks)) (length asks)) (requests.first_bad_length asks) (sym (none-map (λ n. TooMany (capped n)) counts) ∙ sizes)))

    by_found : (o : Option Student) → find_student w.students student ≡ o → length (option_map_or (λ s. s.asks) o []) ≤ 20
    by_found None e = omega arith
    by_found (Some s) e = passed s.asks (all-at (asks_pass w) w.students k.asks_pass s (Members.find-member (λ s. s.row.id.0 == student.0) w.students s e).0)

-- there are at most as many wants as requests
pub few-wants : (rank : ℕ) (asks : List Ask) → length (asks_from rank asks) ≤ length asks
few-wants rank [] = omega arith
few-wants rank (asks_course ask ∷ asks) = omega (arith, few-wants (rank + 1) asks)
few-wants rank (Free pattern ∷ asks) = omega (arith, few-wants (rank + 1) asks)

-- ---- the move of wants that fit

pub plan-stands : (w : World) (student : StudentId) (wants : List Want) → is_some (find_student w.students student) ≡ true → list_all (want_fits w) wants ≡ true
    → MoveStands w (plan_move w student wants)
plan-stands w student wants known fit = record {
  student = known;
  courses = all-of (courses_known w) wants (λ a m. both-left _ _ (both-left _ (is_sized a) (all-at (want_fits w) wants fit a m)));
  sections = all-of (sections_known w) wants (λ a m. both-right (courses_known w a) _ (both-left _ (is_sized a) (all-at (want_fits w) wants fit a m)));
  sized = all-of is_sized wants (λ a m. both-right (courses_known w a && sections_known w a) _ (all-at (want_fits w) wants fit a m));
}

-- wants that fit, and one more that does
pub fit-more : (w : World) (wants : List Want) (want : Want) → list_all (want_fits w) wants ≡ true → want_fits w want ≡ true
    → list_all (want_fits w) (wants ++ want ∷ []) ≡ true
fit-more w wants want fit one =
    all-append (want_fits w) wants (want ∷ []) ∙ both (list_all (want_fits w) wants) (want_fits w want && true) fit (both (want_fits w want) true one refl)

pub more-by-one : {X : Type 0} (xs : List X) (x : X) → length (xs ++ x ∷ []) ≡ length xs + 1
more-by-one xs x = length-append xs (x ∷ [])

-- ---- the wants kept

by-outcome : (w : World) (p : Planned) (tried : List Want) (rank : ℕ) (o : Outcome) → list_all (want_fits w) p.kept ≡ true → list_all (want_fits w) tried ≡ true
    → list_all (want_fits w) (planned_by p tried rank o).kept ≡ true
by-outcome w p tried rank (Found choices visits) kept fit = fit
by-outcome w p tried rank (Blocked tree visits) kept fit = kept
by-outcome w p tried rank (Spent budget) kept fit = kept

pub kept-fit : (w : World) (student : StudentId) (budget : ℕ) (p : Planned) (want : Want) → list_all (want_fits w) p.kept ≡ true → want_fits w want ≡ true
    → list_all (want_fits w) (plan_ask w student budget p want).kept ≡ true
kept-fit w student budget p want kept fits =
    by-outcome w p (tried_with p want) want.rank (outcome_of w (plan_move w student (tried_with p want)) budget) kept (fit-more w p.kept want kept fits)

kept-by : (p : Planned) (want : Want) (o : Outcome) → length (planned_by p (tried_with p want) want.rank o).kept ≤ length p.kept + 1
kept-by p want (Found choices visits) = omega (arith, more-by-one p.kept want)
kept-by p want (Blocked tree visits) = omega arith
kept-by p want (Spent budget) = omega arith

pub few-kept : (w : World) (student : StudentId) (budget : ℕ) (p : Planned) (want : Want) → length (plan_ask w student budget p want).kept ≤ length p.kept + 1
few-kept w student budget p want = kept-by p want (outcome_of w (plan_move w student (tried_with p want)) budget)

-- ---- the wants one after the other

-- what is planned of the wants so far, and the wants left
pub record PlansOn (w : World) (student : StudentId) (budget : ℕ) (wants : List Want) (p : Planned) (left : List Want) : Type 0 where
  pub whole : plan_asks w student budget p left ≡ plan_asks w student budget nothing_planned wants
  pub kept : list_all (want_fits w) p.kept ≡ true
  pub fit : list_all (want_fits w) left ≡ true
  pub few : length p.kept + length left ≤ 20
  pub told : AreTold p.verdicts

pub plans-start : (w : World) (student : StudentId) (budget : ℕ) (wants : List Want) → list_all (want_fits w) wants ≡ true → length wants ≤ 20
    → PlansOn w student budget wants nothing_planned wants
plans-start w student budget wants fit few = record { whole = refl; kept = refl; fit = fit; few = omega (arith, few); told = tt }

pub plans-more : (w : World) (student : StudentId) (budget : ℕ) (wants : List Want) (p q : Planned) (want : Want) (left : List Want)
    → PlansOn w student budget wants p (want ∷ left) → q ≡ plan_ask w student budget p want → AreTold q.verdicts → PlansOn w student budget wants q left
plans-more w student budget wants p q want left h is told = record {
  whole = ap (λ x. plan_asks w student budget x left) is ∙ h.whole;
  kept = ap (λ x. list_all (want_fits w) x.kept) is ∙ kept-fit w student budget p want h.kept (both-left (want_fits w want) (list_all (want_fits w) left) h.fit);
  fit = both-right (want_fits w want) (list_all (want_fits w) left) h.fit;
  few = omega (arith, h.few, ap (λ x. length x.kept) is, few-kept w student budget p want);
  told = told;
}

-- the wants of the student's requests are planned
pub plans-are : {E : Type 0} (w : World) (student : StudentId) (budget : ℕ) (wants : List Want) → wants ≡ course_asks (asks_of w student) → (r : Result Planned E)
    → IfOk r (λ p. p ≡ plan_asks w student budget nothing_planned wants) → IfOk r (λ p. p ≡ planned w student budget)
unfolding planned
plans-are w student budget wants same (Ok p) is = is ∙ ap (plan_asks w student budget nothing_planned) same
plans-are w student budget wants same (Err x) is = tt

-- the lines of what is planned
pub lines-are : {V E : Type 0} (items : V → List PlanLine) (w : World) (student : StudentId) (budget : ℕ) (p : Planned) → p ≡ planned w student budget → (r : Result V E)
    → IfOk r (λ v. items v ≡ lines_of p.plan p.verdicts) → IfOk r (λ v. items v ≡ plan_lines w student budget)
unfolding plan_lines
lines-are items w student budget p same (Ok v) is = is ∙ ap (λ (q : Planned). lines_of q.plan q.verdicts) same
lines-are items w student budget p same (Err x) is = tt
