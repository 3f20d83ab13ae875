-- An enrolment or a leaving of another student in an offering that isn't wanted leaves the worlds to read the same.
use Rattle.std.specs.Prelude.{◌≡◌, ◌+◌, Bool, true, false, not, ◌&&◌, ◌==◌, cond, length, filter, refl}
use Rattle.std.proofs.Common.{sym, ◌∙◌, ap, arith}
use Rattle.std.proofs.lemmas.Bool.{eqb-true, eq-eqb}
use Rattle.sect_model.specs.Data.{StudentId, CourseId}
use Rattle.sect_model.specs.declared.held.Enrolment.{Enrolment}
use Rattle.sect_model.specs.declared.held.Waiting.{Waiting}
use Rattle.sect_model.specs.declared.change.Change.TheVariants.{Enrol, Leave}
use Rattle.sect_model.specs.World.{World, is_in, insert_enrolment}
use Rattle.sect_model.specs.Fits.{Fits, changed}
use Rattle.sect_model.specs.Kept.{KeptWorld}
use Rattle.sect_model.specs.Freer.{stays, touches}
use Rattle.sect_model.proofs.Members
use Rattle.sect_model.proofs.Members.{Member, both-left, both-right, not_both}
use Rattle.sect_model.proofs.Limits.{same-course}
use Rattle.sect_model.proofs.Easy.{sound}
use Rattle.sect_model.proofs.ChangeLemmas.{changes-keep}
use Rattle.sect_model.proofs.RosterLemmas.{count-insert}
use Rattle.sect_model.proofs.PutLemmas.{filter-put}
use Rattle.sect_model.proofs.FreerLemmas.{filter-and, all-stay}
use Rattle.sect_model.proofs.FreerEnrol.{if-not}
use Rattle.sect_model.proofs.FreerFrame.{Elsewhere, elsewhere, member-put}
use Rattle.sect_frame.specs.Frame.{ReadsSame}

second-false : (a b : Bool) → b ≡ false → a && b ≡ false
second-false true b h = h
second-false false b h = refl

pub enrol-reads : (w : World) (e : Waiting) (x : Enrolment) → KeptWorld w → Fits w (Enrol x) → x.student.0 == e.student.0 ≡ false → touches w e.want x.choice.course ≡ false
    → ReadsSame w (changed w (Enrol x)) e
enrol-reads w e x k fits unlike away = record {
  forth = elsewhere w k e.want (filter (stays e) w.roster) (filter (stays e) (insert_enrolment x w.roster)) count e.student held;
  back = elsewhere w k e.want (filter (stays e) (insert_enrolment x w.roster)) (filter (stays e) w.roster) (λ p h. sym (count p h)) e.student (sym held);
}
  where
    held : filter (λ y. y.student.0 == e.student.0) (filter (stays e) (insert_enrolment x w.roster)) ≡ filter (λ y. y.student.0 == e.student.0) (filter (stays e) w.roster)
    held =
        Members.filter-filter (λ y. y.student.0 == e.student.0) (stays e) (insert_enrolment x w.roster)
        ∙ ap (filter (stays e)) (filter-put (λ y. y.student.0) (λ y. y.student.0 == e.student.0) x w.roster unlike)
        ∙ sym (Members.filter-filter (λ y. y.student.0 == e.student.0) (stays e) w.roster)

    its : Elsewhere w e.want x
    its =
        let s = sound (changed w (Enrol x)) (changes-keep w (Enrol x) k fits).good x (member-put (λ y. y.student.0) x w.roster) in
        record { well = s.well; fits = s.reservation; other = away }

    count : (p : Enrolment → Bool) → ((y : Enrolment) → Elsewhere w e.want y → p y ≡ false) → length (filter p (filter (stays e) (insert_enrolment x w.roster))) ≡ length (filter p (filter (stays e) w.roster))
    count p h =
        ap length (sym (filter-and (stays e) p (insert_enrolment x w.roster)))
        ∙ count-insert (λ y. stays e y && p y) x w.roster
        ∙ (λ i. cond (second-false (stays e x) (p x) (h x its) i) 1 0 + length (filter-and (stays e) p w.roster i))
        ∙ omega arith

pub leave-reads : (w : World) (e : Waiting) (student : StudentId) (course : CourseId) → KeptWorld w → student.0 == e.student.0 ≡ false → touches w e.want course ≡ false
    → ReadsSame w (changed w (Leave student course)) e
leave-reads w e student course k unlike away = record {
  forth = elsewhere w k e.want (filter (stays e) w.roster) (filter (stays e) (filter (λ y. not (is_in student course y)) w.roster)) count e.student held;
  back = elsewhere w k e.want (filter (stays e) (filter (λ y. not (is_in student course y)) w.roster)) (filter (stays e) w.roster) (λ p h. sym (count p h)) e.student (sym held);
}
  where
    none-goes : (p : Enrolment → Bool) → ((y : Enrolment) → Member w.roster y → p y ≡ true → is_in student course y ≡ false)
        → filter p (filter (stays e) (filter (λ y. not (is_in student course y)) w.roster)) ≡ filter p (filter (stays e) w.roster)
    none-goes p h =
        ap (filter p) (Members.filter-filter (stays e) (λ y. not (is_in student course y)) w.roster)
        ∙ Members.filter-filter p (λ y. not (is_in student course y)) (filter (stays e) w.roster)
        ∙ all-stay (λ y. not (is_in student course y)) (filter p (filter (stays e) w.roster)) (λ y m.
        let a = Members.member-filter p (filter (stays e) w.roster) y m in
        Members.if_false (is_in student course y) (h y (Members.member-filter (stays e) w.roster y a.0).0 a.1))

    held : filter (λ y. y.student.0 == e.student.0) (filter (stays e) (filter (λ y. not (is_in student course y)) w.roster)) ≡ filter (λ y. y.student.0 == e.student.0) (filter (stays e) w.roster)
    held = none-goes (λ y. y.student.0 == e.student.0) (λ y m t. if-not (is_in student course y) (λ i.
        not_both (student.0 == e.student.0)
        (eq-eqb student.0 e.student.0 (sym (eqb-true y.student.0 student.0 (both-left _ _ i)) ∙ eqb-true y.student.0 e.student.0 t)) unlike))

    count : (p : Enrolment → Bool) → ((y : Enrolment) → Elsewhere w e.want y → p y ≡ false) → length (filter p (filter (stays e) (filter (λ y. not (is_in student course y)) w.roster))) ≡ length (filter p (filter (stays e) w.roster))
    count p h = ap length (none-goes p (λ y m t. if-not (is_in student course y) (λ i.
        let s = sound w k.good y m in
        let same : y.choice.course ≡ course = same-course y.choice.course course (eqb-true y.choice.course.0 course.0 (both-right (y.student.0 == student.0) _ i)) in
        not_both (p y) t (h y (record { well = s.well; fits = s.reservation; other = ap (touches w e.want) same ∙ away })))))
