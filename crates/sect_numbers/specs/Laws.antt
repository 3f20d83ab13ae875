-- What an enrolment more, or less, does to the counts; and that enrolling and leaving are that.
use Rattle.std.specs.Prelude.{◌≡◌, ℕ, ◌+◌, ◌≤◌, Bool, not, ◌&&◌, ◌==◌, cond, List, length, filter, find, insert, Option, Some, IsTrue}
use Rattle.std.specs.List.{list_any}
use Rattle.std.specs.Option.{option_map}
use Rattle.sect_base.specs.declared.ids.OfferingId.{OfferingId}
use Rattle.sect_base.specs.declared.ids.StudentId.{StudentId}
use Rattle.sect_base.specs.declared.ids.CourseId.{CourseId}
use Rattle.sect_base.specs.declared.ids.ReservationId.{ReservationId}
use Rattle.sect_base.specs.declared.limit.Level.{Level}
use Rattle.sect_model.specs.declared.held.Enrolment.{Enrolment}
use Rattle.sect_model.specs.declared.change.Change.TheVariants.{Enrol, Leave}
use Rattle.sect_model.specs.Allowed.{credits_held}
use Rattle.sect_model.specs.World.{World, credits_of, is_in, offering_of, used_by, insert_enrolment}
use Rattle.sect_model.specs.Counts.{is_at, count_of, counted_of, used_of, permits_over}
use Rattle.sect_model.specs.Kept.{KeptWorld}
use Rattle.sect_model.specs.Fits.{Fits, changed}
use Rattle.sect_numbers.specs.OneMore.{with_roster, IsMore, OneMore}
use Rattle.sect_numbers.specs.declared.numbers.Numbers.{Numbers}
use Rattle.sect_numbers.specs.Numbers.{is_by, counted_ids, has_uses}
use Rattle.sect_numbers.specs.Tally.{are_apart}

-- one more is counted at the levels of the enrolment
abbrev pub CountMore : Type 0
CountMore =
    (w : World) (more : List Enrolment) (e : Enrolment) → IsMore w.roster more e → (level : Level)
    → count_of (with_roster w more) level ≡ cond (is_at w level e) 1 0 + count_of w level

-- and counts towards their limits, but for one by a reservation that permits over limit
abbrev pub CountedMore : Type 0
CountedMore =
    (w : World) (more : List Enrolment) (e : Enrolment) → IsMore w.roster more e → (level : Level)
    → counted_of (with_roster w more) level ≡ cond (is_at w level e && not (permits_over (used_by w e.choice))) 1 0 + counted_of w level

-- one more uses the reservation of the enrolment
abbrev pub UsedMore : Type 0
UsedMore =
    (w : World) (more : List Enrolment) (e : Enrolment) → IsMore w.roster more e → (id : ReservationId)
    → used_of (with_roster w more) id ≡ cond (is_by e id.0) 1 0 + used_of w id

-- the student holds its credits more
abbrev pub CreditsMore : Type 0
CreditsMore =
    (w : World) (more : List Enrolment) (e : Enrolment) → IsMore w.roster more e → (id : StudentId)
    → credits_held (with_roster w more) id ≡ cond (e.student.0 == id.0) (credits_of w e.choice.course) 0 + credits_held w id

-- an enrolment put among those of its student is one more
abbrev pub InsertedIsMore : Type 0
InsertedIsMore = (e : Enrolment) (es : List Enrolment) → IsMore es (insert_enrolment e es) e

-- one put anywhere is one more
abbrev pub PutBackIsMore : Type 0
PutBackIsMore = (e : Enrolment) (es : List Enrolment) (place : ℕ) → place ≤ length es → IsMore es (insert es place e) e

-- without the one that a student holds in a course, there was one more
abbrev pub LeftIsMore : Type 0
LeftIsMore =
    (e : Enrolment) (es : List Enrolment) (student : StudentId) (course : CourseId)
    → length (filter (is_in student course) es) ≡ 1 → find (is_in student course) es ≡ Some e
    → IsMore (filter (λ x. not (is_in student course x)) es) es e

-- the sections of each enrolment of a kept world differ
abbrev pub SectionsDiffer : Type 0
SectionsDiffer = (w : World) (more : List Enrolment) (e : Enrolment) → IsMore w.roster more e → KeptWorld (with_roster w more) → IsTrue (are_apart e.choice.sections)

-- a count of uses is kept of the ids that are listed
abbrev pub CountedIds : Type 0
CountedIds = (n : Numbers) (id : ReservationId) → list_any (λ k. k == id.0) (counted_ids n) ≡ has_uses n id

-- enrolling makes a world with one enrolment more
abbrev pub EnrolIsMore : Type 0
EnrolIsMore =
    (w : World) (e : Enrolment) (offering : Option OfferingId) (over : Bool) → KeptWorld w → Fits w (Enrol e)
    → option_map (λ o. o.id) (offering_of w e.choice.course) ≡ offering → permits_over (used_by w e.choice) ≡ over
    → OneMore w (changed w (Enrol e)).roster e offering over

-- leaving makes a world that had one enrolment more
abbrev pub LeaveIsMore : Type 0
LeaveIsMore =
    (w : World) (student : StudentId) (course : CourseId) (e : Enrolment) (offering : Option OfferingId) (over : Bool) → KeptWorld w
    → length (filter (is_in student course) w.roster) ≡ 1 → find (is_in student course) w.roster ≡ Some e
    → option_map (λ o. o.id) (offering_of w e.choice.course) ≡ offering → permits_over (used_by w e.choice) ≡ over
    → OneMore (changed w (Leave student course)) w.roster e offering over
