-- What making a change and taking it back leave.
use Rattle.std.specs.Prelude.{◌≡◌, ◌<◌, ◌≤◌, ◌==◌, length, IsTrue, ⊤}
use Rattle.std.specs.List.{list_any}
use Rattle.std.specs.Option.{is_some, is_none}
use Rattle.sect_catalog.specs.Limits.{limit_in}
use Rattle.sect_people.specs.Student.{find_student}
use Rattle.sect_model.specs.declared.change.Change.{Change}
use Rattle.sect_model.specs.World.{reservation_of}
use Rattle.sect_model.specs.Refusals.{restriction_of}
use Rattle.sect_model.specs.Fits.{changed}
use Rattle.sect_space.specs.declared.back.Back.{Back}
use Rattle.sect_space.specs.declared.back.Back.TheVariants.{OfferingAdded, StudentAdded, StudentReplaced, RequestsReplaced, ReservationAdded, ReservationRemoved, ExpiryReplaced, RestrictionAdded, RestrictionRemoved, LimitReplaced, SectionCancelled, DayReplaced, Enrolled, Left}
use Rattle.sect_space.specs.Back.{back_of, taken_back}
use Rattle.sect_space.specs.Roomed.{Roomed}
use Rattle.sect_roster.specs.Slots.{capacity_of, number_of}
use Rattle.sect_roster.specs.Rostered.{number_held}
use Rattle.sect_space.specs.Room.{KeepsLists, free_for}

-- the change was made, and this is kept of it
pub record Made (r s : Roomed) (change : Change) (back : Back) : Type 0 where
  pub world : s.world ≡ changed r.world change
  pub recorded : back ≡ back_of r.world change
  pub room : KeepsLists r s

-- nothing was changed
pub record Unchanged (r s : Roomed) : Type 0 where
  pub world : s.world ≡ r.world
  pub room : KeepsLists r s

-- the change was taken back
pub record Taken (r s : Roomed) (back : Back) : Type 0 where
  pub world : s.world ≡ taken_back r.world back
  pub room : KeepsLists r s

-- what the change refers to is there, and there is room for what is put back
abbrev pub Ready : Roomed → Back → Type 0
Ready r (OfferingAdded id) = 0 < length r.world.catalogue.rows
Ready r (StudentAdded id) = 0 < length r.world.students
Ready r (StudentReplaced row) = IsTrue (is_some (find_student r.world.students row.id))
Ready r (RequestsReplaced student asks) = IsTrue (is_some (find_student r.world.students student))
Ready r (ReservationAdded id offering) = IsTrue (is_some (reservation_of r.world id))
Ready r (ReservationRemoved place row) =
    (number_of (λ x. x.offering.0) row.offering.0 r.world.reservations < capacity_of r.reservation_rooms row.offering.0) × (0 < r.reservation_spare)
    × (place ≤ number_of (λ x. x.offering.0) row.offering.0 r.world.reservations) × IsTrue (is_none (reservation_of r.world row.id))
Ready r (ExpiryReplaced id offering day) = IsTrue (is_some (reservation_of r.world id))
Ready r (RestrictionAdded id offering) = IsTrue (is_some (restriction_of r.world id))
Ready r (RestrictionRemoved place row) =
    (number_of (λ x. x.offering.0) row.offering.0 r.world.restrictions < capacity_of r.restriction_rooms row.offering.0) × (0 < r.restriction_spare)
    × (place ≤ number_of (λ x. x.offering.0) row.offering.0 r.world.restrictions) × IsTrue (is_none (restriction_of r.world row.id))
Ready r (LimitReplaced cap offering limit) = IsTrue (is_some (limit_in r.world.catalogue.rows cap))
Ready r (SectionCancelled id offering) = 0 < length r.world.catalogue.cancelled
Ready r (DayReplaced old new) = ⊤
Ready r (Enrolled student offering) = IsTrue (list_any (λ e. e.student.0 == student.0) r.world.roster)
Ready r (Left place e offering) = (0 < free_for r e.student.0) × (place ≤ number_held e.student.0 r.world.roster)
