-- The student of an enrolment is known, and holds few.
use Rattle.std.specs.Prelude.{◌≡◌, ◌≤◌, ◌==◌, ◌*◌, Bool, true, List, length, filter}
use Rattle.std.specs.Option.{is_some}
use Rattle.std.proofs.Common.{arith}
use Rattle.sect_base.specs.declared.ids.StudentId.{StudentId}
use Rattle.sect_people.specs.Student.{find_student}
use Rattle.sect_model.specs.declared.held.Enrolment.{Enrolment}
use Rattle.sect_model.specs.World.{World}
use Rattle.sect_model.specs.Kept.{KeptWorld}
use Rattle.sect_model.proofs.Easy.{sound}
use Rattle.sect_model.proofs.Members.{all-of}
use Rattle.sect_model.proofs.SizeLemmas.{roster-is-small}
use Rattle.sect_numbers.specs.OneMore.{with_roster, IsMore}
use Rattle.sect_numbers.proofs.MoreLemmas.{holds-of}
use Rattle.sect_weeks.specs.declared.weeks.Weeks.{Weeks}
use Rattle.sect_weeks.specs.Busy.{ToldWeeks}
use Rattle.sect_weeks.specs.Rows.{credits_at}
use Rattle.sect_space.proofs.Bounds.{part-le}

-- the student of the one more is known
pub known-in : (w : World) (less : List Enrolment) (e : Enrolment) → IsMore less w.roster e → KeptWorld w → is_some (find_student w.students e.student) ≡ true
known-in w less e more k =
    holds-of less w.roster e more (λ x. is_some (find_student w.students x.student)) (all-of (λ x. is_some (find_student w.students x.student)) w.roster (λ x m. (sound w k.good x m).known))

-- a part of the roster with one less is small
pub part-few : (w : World) (less : List Enrolment) (e : Enrolment) → IsMore less w.roster e → KeptWorld w → (p : Enrolment → Bool) → length (filter p less) ≤ 1000000000
part-few w less e more k p =
    let fewer : length (filter p less) ≤ length (filter p w.roster) = omega (arith, more.counts p) in
    omega (arith, fewer, part-le p w.roster, roster-is-small w k)

-- the credits of what a student holds of it are few
pub credits-few : (t : Weeks) (w : World) (less : List Enrolment) (e : Enrolment) → IsMore less w.roster e → KeptWorld w → ToldWeeks t (with_roster w less) → (id : StudentId)
    → credits_at t id.0 ≤ 255 * 1000000000
credits-few t w less e more k told id = omega (arith, told.few id, part-few w less e more k (λ x. x.student.0 == id.0))
