-- A change that doesn't touch an entry leaves the outcome of its search as it is.
use Rattle.std.specs.Prelude.{◌≡◌, true, false, ◌&&◌, ◌||◌, ◌==◌, ◌⊎◌, refl}
use Rattle.std.specs.Option.{is_some}
use Rattle.std.proofs.Common.{◌∙◌, ap, inl, inr}
use Rattle.std.proofs.lemmas.Bool.{eq-eqb}
use Rattle.sect_people.specs.Student.{find_student}
use Rattle.sect_catalog.specs.Catalogue.{find_section}
use Rattle.sect_model.specs.declared.change.Change.{Change}
use Rattle.sect_model.specs.declared.change.Change.TheVariants.{Offering, Student, Requests, Reserve, Unreserve, Expiry, Restrict, Unrestrict, Cap, Cancelled, Day, Enrol, Leave}
use Rattle.sect_model.specs.Data.{SectionId}
use Rattle.sect_model.specs.declared.held.Waiting.{Waiting}
use Rattle.sect_model.specs.World.{World, offering_of}
use Rattle.sect_model.specs.Premises.{courses_known, sections_known, is_sized, want_fits}
use Rattle.sect_model.specs.Fits.{changed}
use Rattle.sect_model.specs.Kept.{entry_fits}
use Rattle.sect_model.specs.Freer.{touches, frees_some}
use Rattle.sect_model.proofs.Members
use Rattle.sect_model.proofs.Members.{Member, all-at, all-of, both, both-left, both-right, either, not_both, or-left, or-right, known}
use Rattle.sect_model.proofs.Easy.{some-map}
use Rattle.sect_model.proofs.CapChange.{section-after}
use Rattle.sect_model.proofs.ChangeLemmas.{changes-keep}
use Rattle.sect_frame.specs.Frame.{ReadsSame, OpensTouched, UntouchedSameOutcome}
use Rattle.sect_frame.proofs.CatalogueLemmas.{section-longer}
use Rattle.sect_frame.proofs.UntouchedLemmas.{untouched-reads}
use Rattle.sect_frame.proofs.WalkLemmas.{same-outcome}

-- a section that is known stays so
section-stays : (w : World) (change : Change) (s : SectionId) → is_some (find_section w.catalogue.rows s) ≡ true → is_some (find_section (changed w change).catalogue.rows s) ≡ true
section-stays w (Offering row) s h = ap is_some (section-longer w.catalogue.rows row s h) ∙ h
section-stays w (Cap cap limit) s h = ap is_some (section-after cap limit w.catalogue.rows s) ∙ some-map _ (find_section w.catalogue.rows s) ∙ h
section-stays w (Student row) s h = h
section-stays w (Requests student asks) s h = h
section-stays w (Reserve r) s h = h
section-stays w (Unreserve id) s h = h
section-stays w (Expiry id day) s h = h
section-stays w (Restrict r) s h = h
section-stays w (Unrestrict id) s h = h
section-stays w (Cancelled id) s h = h
section-stays w (Day day) s h = h
section-stays w (Enrol x) s h = h
section-stays w (Leave student course) s h = h

-- an entry that fits goes on to fit
still-fits : (w v : World) (e : Waiting) → ReadsSame w v e → ((s : SectionId) → is_some (find_section w.catalogue.rows s) ≡ true → is_some (find_section v.catalogue.rows s) ≡ true)
    → entry_fits w e ≡ true → entry_fits v e ≡ true
still-fits w v e same sections h =
    both (is_some (find_student v.students e.student)) (want_fits v e.want)
    (ap is_some same.forth.row ∙ both-left _ (want_fits w e.want) h)
    (both (courses_known v e.want && sections_known v e.want) (is_sized e.want)
    (both (courses_known v e.want) (sections_known v e.want)
    (all-of (λ c. is_some (offering_of v c)) e.want.courses (λ c m.
    let o = known (offering_of w c) (all-at (λ c. is_some (offering_of w c)) e.want.courses (both-left _ _ (both-left _ (is_sized e.want) fits)) c m) in
    ap is_some (same.back.wanted c o.0 (Members.any-of (λ x. x.0 == c.0) e.want.courses c m (eq-eqb c.0 c.0 refl)) o.1).row))
    (all-of (λ s. is_some (find_section v.catalogue.rows s)) e.want.only (λ s m.
    sections s (all-at (λ s. is_some (find_section w.catalogue.rows s)) e.want.only (both-right (courses_known w e.want) _ (both-left _ (is_sized e.want) fits)) s m))))
    (both-right (courses_known w e.want && sections_known w e.want) _ fits))
  where
    fits : want_fits w e.want ≡ true
    fits = both-right (is_some (find_student w.students e.student)) _ h

pub untouched-outcome : UntouchedSameOutcome
untouched-outcome w e change k fits entry h =
    let same = untouched-reads w e change k fits entry h in
    same-outcome w (changed w change) e k (changes-keep w change k fits) entry (still-fits w (changed w change) e same (section-stays w change) entry) same

pub opens-touched : OpensTouched
opens-touched w e (Cancelled id) h = absurd (not_both false h refl)
opens-touched w e (Enrol x) h = by_part (either (x.student.0 == e.student.0) _ h)
  where
    by_part : (x.student.0 == e.student.0 ≡ true) ⊎ (touches w e.want x.choice.course && frees_some w x.choice ≡ true) → x.student.0 == e.student.0 || touches w e.want x.choice.course ≡ true
    by_part (inl t) = or-left (x.student.0 == e.student.0) (touches w e.want x.choice.course) t
    by_part (inr t) = or-right (x.student.0 == e.student.0) (touches w e.want x.choice.course) (both-left _ (frees_some w x.choice) t)
opens-touched w e (Offering row) h = h
opens-touched w e (Student row) h = h
opens-touched w e (Requests student asks) h = h
opens-touched w e (Reserve r) h = h
opens-touched w e (Unreserve id) h = h
opens-touched w e (Expiry id day) h = h
opens-touched w e (Restrict r) h = h
opens-touched w e (Unrestrict id) h = h
opens-touched w e (Cap cap limit) h = h
opens-touched w e (Day day) h = h
opens-touched w e (Leave student course) h = h
