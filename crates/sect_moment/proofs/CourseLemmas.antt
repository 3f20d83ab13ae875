-- The courses of an offering are those that its row lists.
use Rattle.std.specs.Prelude.{◌≡◌, Bool, true, false, not, ◌&&◌, ◌||◌, ◌==◌, List, [], ◌∷◌, length, map, flat_map, count_by, Some, refl}
use Rattle.std.specs.List.{list_any}
use Rattle.std.specs.Option.{option_map_or}
use Rattle.std.proofs.Common.{sym, ◌∙◌, ap, subst, arith, inl, inr}
use Rattle.std.proofs.lemmas.Bool.{eqb-true, eq-eqb}
use Rattle.sect_catalog.specs.Catalogue.{find_offering, has_course}
use Rattle.sect_catalog.specs.Fault.{config_ids, row_ids, are_checked}
use Rattle.sect_model.specs.Data.{StudentId, CourseId, OfferingRow, Choice}
use Rattle.sect_model.specs.declared.held.Enrolment.{Enrolment}
use Rattle.sect_model.specs.World.{World, offering_of, is_of, held_by}
use Rattle.sect_model.specs.Allowed.{holds_offering}
use Rattle.sect_model.specs.Kept.{KeptWorld}
use Rattle.sect_model.proofs.Members
use Rattle.sect_model.proofs.Members.{Member, same_test, known-test}
use Rattle.sect_model.proofs.FreerRows.{one-row}
use Rattle.sect_moment.specs.Moment.{is_given, moved}
use Rattle.sect_moment.proofs.IdLemmas.{offering-member}
use Rattle.sect_moment.proofs.MomentLemmas.{held-moved, any-moved}

course-id : (o : OfferingRow) (id : CourseId) → has_course o id ≡ true → Member (row_ids o) (1, id.0)
course-id o id h =
    let c = Members.any-at (λ c. c.id.0 == id.0) o.courses h in
    subst (λ n. Member (row_ids o) (1, n)) (eqb-true c.0.id.0 id.0 c.2)
    (inr (Members.member-left (map (λ c. (1, c.id.0)) o.courses) (flat_map config_ids o.configs) (1, c.0.id.0) (Members.member-of_map (λ c. (1, c.id.0)) o.courses c.0 c.1)))

module _ (w : World) (checked : are_checked w.catalogue.rows ≡ true) (o : OfferingRow) (m : Member w.catalogue.rows o) where
  -- a row with its id is this row
  same-id : (x : OfferingRow) → Member w.catalogue.rows x → x.id.0 ≡ o.id.0 → o ≡ x
  same-id x n e = one-row w.catalogue.rows checked o x m n (0, o.id.0) (0, x.id.0) (inl refl) (inl refl) (eq-eqb x.id.0 o.id.0 e)

  -- it is the one that its id finds
  pub itself : find_offering w.catalogue.rows o.id ≡ Some o
  itself =
      let x = Members.known (find_offering w.catalogue.rows o.id) (Members.find-some (λ x. x.id.0 == o.id.0) w.catalogue.rows o m (eq-eqb o.id.0 o.id.0 refl)) in
      let f = Members.find-member (λ x. x.id.0 == o.id.0) w.catalogue.rows x.0 x.1 in
      x.1 ∙ ap (λ y. Some y) (sym (same-id x.0 f.0 (eqb-true x.0.id.0 o.id.0 f.1)))

  listed : (c : CourseId) → is_of w o.id c ≡ true → has_course o c ≡ true
  listed c t =
      let x = known-test (λ x. x.id.0 == o.id.0) (offering_of w c) t in
      let f = Members.find-member (λ o. has_course o c) w.catalogue.rows x.0 x.1 in
      ap (λ o. has_course o c) (same-id x.0 f.0 (eqb-true x.0.id.0 o.id.0 x.2)) ∙ f.1

  its-own : (c : CourseId) → has_course o c ≡ true → is_of w o.id c ≡ true
  its-own c h =
      let x = Members.known (offering_of w c) (Members.find-some (λ o. has_course o c) w.catalogue.rows o m h) in
      let f = Members.find-member (λ o. has_course o c) w.catalogue.rows x.0 x.1 in
      ap (λ y. option_map_or (λ z. z.id.0 == o.id.0) y false) x.1
      ∙ eq-eqb x.0.id.0 o.id.0 (sym (ap (λ y. y.id.0) (one-row w.catalogue.rows checked o x.0 m f.0 (1, c.0) (1, c.0) (course-id o c h) (course-id x.0 c f.1) (eq-eqb c.0 c.0 refl))))

  -- a course is one of the offering's exactly where its row has it
  pub of-listed : (c : CourseId) → is_of w o.id c ≡ has_course o c
  of-listed c = same_test (is_of w o.id c) (has_course o c) (listed c) (its-own c)

-- whether the student holds a course of the offering, by the courses of its row
pub held-listed : (w : World) (k : KeptWorld w) (st : StudentId) (give : List CourseId) (done : List Choice) (course : CourseId) (o : OfferingRow) → offering_of w course ≡ Some o
    → holds_offering (moved w st give done) st o.id
    ≡ list_any (λ e. not (is_given give e.choice.course) && has_course o e.choice.course) (held_by w st) || list_any (λ d. has_course o d.course) done
held-listed w k st give done course o e =
    ap (list_any (λ e. is_of w o.id e.choice.course)) (held-moved w st give done k.in_order)
    ∙ any-moved (λ d. is_of w o.id d.course) st give (held_by w st) done
    ∙ (λ i. list_any (λ e. not (is_given give e.choice.course) && same e.choice.course i) (held_by w st) || list_any (λ d. same d.course i) done)
  where
    same : (c : CourseId) → is_of w o.id c ≡ has_course o c
    same = of-listed w k.rows_pass o (offering-member w k.rows_pass course o e)

-- where nothing is given up, nothing that leaves counts
pub none-given : (p : Choice → Bool) (give : List CourseId) (held : List Enrolment) → (length give == 0) ≡ true → 0 ≡ count_by (λ e. is_given give e.choice.course && p e.choice) held
none-given p [] held e = sym (none held)
  where
    none : (held : List Enrolment) → count_by (λ x. false) held ≡ 0
    none [] = refl
    none (x ∷ xs) = none xs
none-given p (c ∷ cs) held e = let z : length (c ∷ cs) ≡ 0 = eqb-true (length (c ∷ cs)) 0 e in absurd (omega (arith, z))

-- where no choice is made, none counts
pub none-made : (p : Choice → Bool) (done : List Choice) → (length done == 0) ≡ true → 0 ≡ count_by p done
none-made p [] e = refl
none-made p (c ∷ cs) e = let z : length (c ∷ cs) ≡ 0 = eqb-true (length (c ∷ cs)) 0 e in absurd (omega (arith, z))
