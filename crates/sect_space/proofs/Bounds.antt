-- How many enrolments, configurations of a row and reservations there can be.
use Rattle.std.specs.Prelude.{◌≡◌, ℕ, ◌*◌, ◌≤◌, Bool, true, false, nat_lt, nat_le, List, [], ◌∷◌, length, filter, map, flat_map, cond, Option, Some, None, ◌==◌, ◌+◌, ◌||◌, refl}
use Rattle.std.specs.List.{list_any}
use Rattle.std.specs.Option.{is_none, option_or, option_map_or}
use Rattle.std.proofs.Common.{sym, ◌∙◌, ap, subst, arith, inl}
use Rattle.std.proofs.lemmas.Bool.{eq-eqb, eqb-true}
use Rattle.std.proofs.lemmas.Bool.Decides.{nat_tests}
use Rattle.std.proofs.lemmas.List.Sums.{length-filter, count_by-le-length}
use Rattle.sect_catalog.specs.Catalogue.{Catalogue, find_offering, sections_in, all_sections}
use Rattle.sect_catalog.specs.Fault.{above, are_checked}
use Rattle.sect_catalog.specs.declared.row.OfferingRow.{OfferingRow}
use Rattle.sect_catalog.specs.declared.row.SubpartRow.{SubpartRow}
use Rattle.sect_base.specs.declared.ids.OfferingId.{OfferingId}
use Rattle.sect_base.specs.declared.ids.CourseId.{CourseId}
use Rattle.sect_base.specs.declared.ids.StudentId.{StudentId}
use Rattle.sect_model.specs.declared.held.Enrolment.{Enrolment}
use Rattle.sect_reserve.specs.declared.row.Reservation.{Reservation}
use Rattle.sect_model.specs.World.{World, offering_of, is_of, is_in, holds}
use Rattle.sect_model.specs.Allowed.{reservations_of}
use Rattle.sect_model.specs.Kept.{KeptWorld, includes_fit, lists_own}
use Rattle.sect_model.proofs.Members.{Member, all-at, find-member, known-test, member-filter, not_both, any-at, both, both-left, both-right, count-le}
use Rattle.sect_model.proofs.CheckedLemmas.{checked-each, passed, faultless}
use Rattle.sect_model.proofs.RowLemmas.{rows-few}
use Rattle.sect_model.proofs.SizeLemmas.{at-most-classes, sum-bound, enrolled_in, at-most-one}
use Rattle.sect_model.proofs.Standing.{standing}
use Rattle.sect_model.proofs.Easy.{sound}

trans : {a b c : ℕ} → a ≤ b → b ≤ c → a ≤ c
trans h i = omega (arith, h, i)

pub part-le : {X : Type 0} (p : X → Bool) (xs : List X) → length (filter p xs) ≤ length xs
part-le p xs = subst (λ n. n ≤ length xs) (sym (length-filter p xs)) (count_by-le-length p xs)

-- ---- configurations of an offering

none-above : (n limit : ℕ) → is_none (above limit (n ∷ [])) ≡ true → n ≤ limit
none-above n limit h = by_test (nat_lt limit n) refl h
  where
    by_test : (b : Bool) → nat_lt limit n ≡ b → is_none (cond b (Some n) None) ≡ true → n ≤ limit
    by_test true t g = absurd (not_both false g refl)
    by_test false t g = grind (arith, nat_tests, t)

second-none : {X : Type 0} (a b c : Option X) → is_none (option_or a (option_or b c)) ≡ true → is_none b ≡ true
second-none (Some x) b c h = absurd (not_both false h refl)
second-none None None c h = refl
second-none None (Some x) c h = h

few-configs : (before : List OfferingRow) (o : OfferingRow) → passed before o ≡ true → nat_le (length o.configs) 10 ≡ true
few-configs before o h =
    let c : Catalogue = record { rows = before; cancelled = [] } in
    let subparts : List SubpartRow = flat_map (λ g. g.subparts) o.configs in
    within (length o.configs)
    (none-above (length o.configs) 10
    (second-none (above 10 (length o.courses ∷ [])) (above 10 (length o.configs ∷ []))
    (option_or (above 6 (map (λ g. length g.subparts) o.configs))
    (option_or (above 200 (map (λ p. length p.sections) subparts))
    (option_or (above 8 (map (λ s. length s.meetings) (sections_in subparts)))
    (above 20000 ((length (all_sections c.rows) + length (sections_in subparts)) ∷ [])))))
    (faultless before o h).3))
  where
    within : (n : ℕ) → n ≤ 10 → nat_le n 10 ≡ true
    within n h = grind (arith, nat_tests, h)

-- an offering among checked rows has at most ten configurations
pub configs-few : (rows : List OfferingRow) → are_checked rows ≡ true → (id : OfferingId) (o : OfferingRow) → find_offering rows id ≡ Some o → length o.configs ≤ 10
configs-few rows h id o f =
    within (length o.configs)
    (all-at (λ o. nat_le (length o.configs) 10) rows (checked-each (λ o. nat_le (length o.configs) 10) few-configs [] rows h) o
    (find-member (λ o. o.id.0 == id.0) rows o f).0)
  where
    within : (n : ℕ) → nat_le n 10 ≡ true → n ≤ 10
    within n h = grind (arith, nat_tests, h)

-- ---- reservations

-- each reservation is of an offering of the catalogue
pub of-offering : (w : World) → KeptWorld w → (r : Reservation) → Member w.reservations r → (o : OfferingRow) × Member w.catalogue.rows o × (r.offering.0 == o.id.0 ≡ true)
of-offering w k r m =
    let f = known-test (lists_own r.includes) (find_offering w.catalogue.rows r.offering) (all-at (λ r. includes_fit w r.offering r.includes) w.reservations k.reservations_fit r m) in
    let g = find-member (λ o. o.id.0 == r.offering.0) w.catalogue.rows f.0 f.1 in
    (f.0, g.0, eq-eqb r.offering.0 f.0.id.0 (sym (eqb-true f.0.id.0 r.offering.0 g.1)))

-- an offering has at most 50, as one of them says
fifty : (w : World) → KeptWorld w → (o : OfferingRow) → length (filter (λ r. r.offering.0 == o.id.0) w.reservations) ≤ 50
fifty w k o = by_list (filter (λ r. r.offering.0 == o.id.0) w.reservations) refl
  where
    within : (n : ℕ) → nat_le n 50 ≡ true → n ≤ 50
    within n h = grind (arith, nat_tests, h)

    by_list : (rs : List Reservation) → filter (λ r. r.offering.0 == o.id.0) w.reservations ≡ rs → length rs ≤ 50
    by_list [] e = omega arith
    by_list (r ∷ rs) e =
        let m = member-filter (λ r. r.offering.0 == o.id.0) w.reservations r (subst (λ xs. Member xs r) (sym e) (inl refl)) in
        let n = eqb-true r.offering.0 o.id.0 m.1 in
        within (length (r ∷ rs))
        (ap (λ xs. nat_le (length xs) 50) (sym e) ∙ ap (λ n. nat_le (length (filter (λ r. r.offering.0 == n) w.reservations)) 50) (sym n)
        ∙ all-at (λ r. nat_le (length (reservations_of w r.offering)) 50) w.reservations k.few_reservations r m.0)

-- a kept world has at most 1,000,000 reservations: 50 of each of 20,000 offerings
pub reservations-few : (w : World) → KeptWorld w → length w.reservations ≤ 1000000
reservations-few w k =
    joined (length w.reservations) (length w.catalogue.rows)
    (trans (at-most-classes (λ o r. r.offering.0 == o.id.0) w.catalogue.rows w.reservations (of-offering w k))
    (sum-bound (λ o. length (filter (λ r. r.offering.0 == o.id.0) w.reservations)) 50 w.catalogue.rows (λ o m. fifty w k o)))
    (rows-few w.catalogue.rows k.rows_pass)
  where
    joined : (n o : ℕ) → n ≤ o * 50 → o ≤ 20000 → n ≤ 1000000
    joined n o h i = omega (arith, h, i)

-- ---- a student's enrolment in a course

some-kept : {X : Type 0} (p : X → Bool) (xs : List X) → list_any p xs ≡ true → 1 ≤ length (filter p xs)
some-kept p [] h = absurd (not_both false h refl)
some-kept p (x ∷ xs) h = by_test (p x) h (some-kept p xs)
  where
    by_test : (b : Bool) → b || list_any p xs ≡ true → (list_any p xs ≡ true → 1 ≤ length (filter p xs)) → 1 ≤ length (cond b (x ∷ filter p xs) (filter p xs))
    by_test true h ih = omega arith
    by_test false h ih = ih h

-- a student who holds a course is enrolled in it once
pub held-once : (w : World) → KeptWorld w → (student : StudentId) (course : CourseId) → holds w student course ≡ true → length (filter (is_in student course) w.roster) ≡ 1
held-once w k student course h =
    let e = any-at (is_in student course) w.roster h in
    let f = standing w e.0.choice (sound w k.good e.0 e.1).well in
    let its : offering_of w course ≡ Some f.offering = ap (λ n. offering_of w (record { 0 = n })) (sym (eqb-true e.0.choice.course.0 course.0 (both-right (e.0.student.0 == student.0) _ e.2))) ∙ f.is_its in
    one (length (filter (is_in student course) w.roster)) (some-kept (is_in student course) w.roster h)
    (trans (count-le (is_in student course) (enrolled_in w student f.offering.id) w.roster (in_it f.offering its)) (at-most-one w student f.offering.id w.roster k.good.together))
  where
    one : (n : ℕ) → 1 ≤ n → n ≤ 1 → n ≡ 1
    one n h i = omega (arith, h, i)

    in_it : (o : OfferingRow) → offering_of w course ≡ Some o → (x : Enrolment) → is_in student course x ≡ true → enrolled_in w student o.id x ≡ true
    in_it o e x t =
        both (x.student.0 == student.0) (is_of w o.id x.choice.course) (both-left (x.student.0 == student.0) _ t)
        (ap (λ n. is_of w o.id (record { 0 = n })) (eqb-true x.choice.course.0 course.0 (both-right (x.student.0 == student.0) _ t))
        ∙ ap (λ r. option_map_or (λ y. y.id.0 == o.id.0) r false) e ∙ eq-eqb o.id.0 o.id.0 refl)
