-- What was known stays known, so a waiting entry that fits goes on to fit.
use Rattle.std.specs.Prelude.{◌≡◌, Bool, true, ◌&&◌, ◌==◌, List, find}
use Rattle.std.specs.List.{list_any, list_all}
use Rattle.std.specs.Option.{is_some}
use Rattle.std.proofs.Common.{◌∙◌, ap}
use Rattle.sect_people.specs.Student.{find_student}
use Rattle.sect_catalog.specs.Catalogue.{find_section}
use Rattle.sect_model.specs.Data.{StudentId, CourseId, SectionId, Waiting, Want}
use Rattle.sect_model.specs.World.{World, offering_of}
use Rattle.sect_model.specs.Premises.{courses_known, sections_known, want_fits, is_sized}
use Rattle.sect_model.specs.Kept.{entry_fits}
use Rattle.sect_model.proofs.Members.{all-at, all-of, both, both-left, both-right}

pub record Grows (w v : World) : Type 0 where
  pub students : (id : StudentId) → is_some (find_student w.students id) ≡ true → is_some (find_student v.students id) ≡ true
  pub courses : (id : CourseId) → is_some (offering_of w id) ≡ true → is_some (offering_of v id) ≡ true
  pub sections : (id : SectionId) → is_some (find_section w.catalogue.rows id) ≡ true → is_some (find_section v.catalogue.rows id) ≡ true

-- the rows of students and offerings are the same
pub same-grows : (w v : World) → v.students ≡ w.students → v.catalogue.rows ≡ w.catalogue.rows → Grows w v
same-grows w v same rows = record {
  students = λ id h. ap (λ ss. is_some (find_student ss id)) same ∙ h;
  courses = λ id h. ap (λ rs. is_some (find (λ o. list_any (λ c. c.id.0 == id.0) o.courses) rs)) rows ∙ h;
  sections = λ id h. ap (λ rs. is_some (find_section rs id)) rows ∙ h;
}

pub all-grow : {X : Type 0} (p q : X → Bool) (xs : List X) → ((x : X) → p x ≡ true → q x ≡ true) → list_all p xs ≡ true → list_all q xs ≡ true
all-grow p q xs more h = all-of q xs (λ x m. more x (all-at p xs h x m))

module _ (w v : World) (g : Grows w v) where
  pub want-stays : (want : Want) → want_fits w want ≡ true → want_fits v want ≡ true
  want-stays want h =
      both (courses_known v want && sections_known v want) (is_sized want)
      (both (courses_known v want) (sections_known v want)
      (all-grow (λ c. is_some (offering_of w c)) (λ c. is_some (offering_of v c)) want.courses g.courses (both-left _ _ (both-left _ (is_sized want) h)))
      (all-grow (λ s. is_some (find_section w.catalogue.rows s)) (λ s. is_some (find_section v.catalogue.rows s)) want.only g.sections (both-right (courses_known w want) _ (both-left _ (is_sized want) h))))
      (both-right (courses_known w want && sections_known w want) _ h)

  pub entry-stays : (e : Waiting) → entry_fits w e ≡ true → entry_fits v e ≡ true
  entry-stays e h =
      both (is_some (find_student v.students e.student)) (want_fits v e.want) (g.students e.student (both-left _ (want_fits w e.want) h))
      (want-stays e.want (both-right (is_some (find_student w.students e.student)) _ h))

  pub entries-stay : (es : List Waiting) → list_all (entry_fits w) es ≡ true → list_all (entry_fits v) es ≡ true
  entries-stay es h = all-grow (entry_fits w) (entry_fits v) es entry-stays h

-- an entry that fits is of a known student
pub entry-known : (w : World) (e : Waiting) → entry_fits w e ≡ true → is_some (find_student w.students e.student) ≡ true
entry-known w e h = both-left _ (want_fits w e.want) h
