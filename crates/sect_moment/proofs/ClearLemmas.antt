-- Meetings that are clear of the calendar of what a student holds overlap nothing of it.
use Rattle.std.specs.Prelude.{◌≡◌, ◌<◌, ℕ, zero, suc, Bool, true, false, ◌&&◌, ◌||◌, cond, List, [], ◌∷◌, ◌++◌, map, filter, flat_map, None, refl}
use Rattle.std.specs.List.{list_any, All}
use Rattle.std.specs.Option.{option_map_or}
use Rattle.std.proofs.Common.{sym, ◌∙◌, ap, arith, inl, inr}
use Rattle.std.proofs.lemmas.Bool.{and_parts, and_from, or_cases, both_ways, false_from_ne_true}
use Rattle.sect_base.specs.declared.ids.SectionId.{SectionId}
use Rattle.sect_base.specs.declared.ids.StudentId.{StudentId}
use Rattle.sect_base.specs.declared.ids.CourseId.{CourseId}
use Rattle.sect_catalog.specs.Catalogue.{find_section}
use Rattle.sect_base.specs.Pattern.{Pattern, some_below, has_bit, takes_slot, meetings_overlap, lists_overlap}
use Rattle.sect_base.specs.Calendar.{is_set, takes_pair, IsClearFor}
use Rattle.sect_model.specs.declared.held.Enrolment.{Enrolment}
use Rattle.sect_model.specs.World.{World, held_by, meetings_of}
use Rattle.sect_model.specs.Allowed.{permits_overlap}
use Rattle.sect_model.specs.Rules.{least}
use Rattle.sect_model.proofs.Members
use Rattle.sect_model.proofs.Members.{Member}
use Rattle.sect_weeks.specs.Busy.{IsWeekOf}
use Rattle.sect_moment.specs.Moment.{is_given}
use Rattle.sect_moment.specs.Overlapped.{overlapped}

-- a number below the bound that passes the test
abbrev Witness : ℕ → (ℕ → Bool) → Type 0
Witness n test = (k : ℕ) × (k < n) × (test k ≡ true)

witness : (n : ℕ) (test : ℕ → Bool) → some_below n test ≡ true → Witness n test
unfolding some_below
witness zero test some = absurd (both_ways false refl some)
witness (suc n) test some = elim (or_cases (test n) (some_below n test) some) [ inl here ↦ (n, omega arith, here) | inr before ↦ let w = witness n test before in (w.0, omega (arith, w.1), w.2) ]

-- a meeting that is clear overlaps none whose slots are all taken
clear-apart : (words : List ℕ) (p q : Pattern) → IsClearFor words p → ((day slot : ℕ) → slot < 288 → takes_pair q day slot ≡ true → is_set words day slot ≡ true) → meetings_overlap p q ≡ false
unfolding meetings_overlap
clear-apart words p q clear has = false_from_ne_true (meetings_overlap p q) (λ overlap.
    let days = λ (day : ℕ). has_bit p.days day && has_bit q.days day in
    let weeks = λ (week : ℕ). has_bit p.weeks week && has_bit q.weeks week in
    let slots = λ (slot : ℕ). takes_slot p slot && takes_slot q slot in
    let first = and_parts (some_below 7 days && some_below 60 weeks) (some_below 288 slots) overlap in
    let second = and_parts (some_below 7 days) (some_below 60 weeks) first.0 in
    let (day, day_within, on_day) = witness 7 days second.0 in
    let (slot, within, in_slot) = witness 288 slots first.1 in
    let both_days = and_parts (has_bit p.days day) (has_bit q.days day) on_day in
    let both_slots = and_parts (takes_slot p slot) (takes_slot q slot) in_slot in
    both_ways (is_set words day slot)
    (clear day slot (and_from (has_bit p.days day) (takes_slot p slot) both_days.0 both_slots.0))
    (has day slot within (and_from (has_bit q.days day) (takes_slot q slot) both_days.1 both_slots.1)))

filter-none : {X : Type 0} (test : X → Bool) (xs : List X) → ((x : X) → Member xs x → test x ≡ false) → filter test xs ≡ []
filter-none test [] h = refl
filter-none test (x ∷ xs) h = (λ i. cond (h x (inl refl) i) (x ∷ filter test xs) (filter test xs)) ∙ filter-none test xs (λ y m. h y (inr m))

flat-none : {X Y : Type 0} (f : X → List Y) (xs : List X) → ((x : X) → Member xs x → f x ≡ []) → flat_map f xs ≡ []
flat-none f [] h = refl
flat-none f (x ∷ xs) h = (λ i. h x (inl refl) i ++ flat-none f xs (λ y m. h y (inr m)) i)

-- all but the first
behind : {X : Type 0} (P : X → Type 0) (x : X) (xs : List X) → All P (x ∷ xs) → All P xs
behind P x xs all = λ k d h. all (suc k) d (omega (arith, h))

first : {X : Type 0} (P : X → Type 0) (x : X) (xs : List X) → All P (x ∷ xs) → P x
first P x xs all = all zero x (omega arith)

module _ (w v : World) (student : StudentId) (words : List ℕ) (week : IsWeekOf words w student) (same : w.catalogue ≡ v.catalogue) where
  -- the slots of a meeting that is held are taken
  held-taken : (e : Enrolment) → Member (held_by w student) e → (s : SectionId) → Member e.choice.sections s → (q : Pattern) → Member (meetings_of w s) q
      → (day slot : ℕ) → slot < 288 → takes_pair q day slot ≡ true → is_set words day slot ≡ true
  held-taken e m s n q o day slot within takes =
      week day slot within
      ∙ Members.any-of (λ e. list_any (λ s. list_any (λ m. takes_pair m day slot) (meetings_of w s)) e.choice.sections) (held_by w student) e m
      (Members.any-of (λ s. list_any (λ m. takes_pair m day slot) (meetings_of w s)) e.choice.sections s n
      (Members.any-of (λ m. takes_pair m day slot) (meetings_of w s) q o takes))

  clear-of : (meetings : List Pattern) → All (IsClearFor words) meetings → (e : Enrolment) → Member (held_by w student) e → (s : SectionId) → Member e.choice.sections s
      → lists_overlap meetings (meetings_of w s) ≡ false
  clear-of [] clear e m s n = refl
  clear-of (p ∷ ps) clear e m s n =
      λ i. Members.none-of (meetings_overlap p) (meetings_of w s) (λ q o. clear-apart words p q (first (IsClearFor words) p ps clear) (held-taken e m s n q o)) i
      || clear-of ps (behind (IsClearFor words) p ps clear) e m s n i

  clear-here : (meetings : List Pattern) → All (IsClearFor words) meetings → (e : Enrolment) → Member (held_by w student) e → (s : SectionId) → Member e.choice.sections s
      → lists_overlap meetings (meetings_of v s) ≡ false
  clear-here meetings clear e m s n = ap (λ k. lists_overlap meetings (option_map_or (λ r. r.meetings) (find_section k.rows s) [])) (sym same) ∙ clear-of meetings clear e m s n

  -- so none of what is held is the least that overlaps
  pub clear-least : (permitted : Bool) (meetings : List Pattern) → All (IsClearFor words) meetings → (give : List CourseId)
      → None ≡ least (flat_map (λ e. cond (is_given give e.choice.course) [] (overlapped v permitted meetings e.choice)) (held_by w student))
  clear-least permitted meetings clear give =
      sym (ap least (flat-none (λ e. cond (is_given give e.choice.course) [] (overlapped v permitted meetings e.choice)) (held_by w student) (λ e m.
      by_given (is_given give e.choice.course) (overlapped v permitted meetings e.choice)
      (by_given (permitted || permits_overlap v e.choice) (map (λ s. s.0) (filter (λ s. lists_overlap meetings (meetings_of v s)) e.choice.sections))
      (ap (map (λ s. s.0)) (filter-none (λ s. lists_overlap meetings (meetings_of v s)) e.choice.sections (clear-here meetings clear e m)))))))
    where
      by_given : (b : Bool) (ns : List ℕ) → ns ≡ [] → cond b [] ns ≡ []
      by_given true ns h = refl
      by_given false ns h = h
