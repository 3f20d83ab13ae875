-- Whether the lists of a world have room for the rows of another.
use Rattle.std.specs.Prelude.{◌≡◌, ℕ, ◌+◌, ◌-◌, ◌<◌, ◌≤◌, ⊤, Bool, true, ◌||◌, ◌==◌, List, length, All}
use Rattle.std.specs.List.{list_any}
use Rattle.std.specs.Option.{is_some}
use Rattle.sect_base.specs.declared.ids.ReservationId.{ReservationId}
use Rattle.sect_model.specs.World.{World, reservation_of}
use Rattle.sect_people.specs.Student.{Student}
use Rattle.sect_model.specs.declared.change.Change.{Change}
use Rattle.sect_model.specs.declared.change.Change.TheVariants.{Offering, Student as NewStudent, Requests, Reserve, Unreserve, Expiry, Restrict, Unrestrict, Cap as new_cap, Cancelled, Day, Enrol, Leave}
use Rattle.sect_model.specs.declared.held.Enrolment.{Enrolment}
use Rattle.sect_roster.specs.Slots.{Room, InSlots, capacity_of, number_of}
use Rattle.sect_roster.specs.Rostered.{number_held}
use Rattle.sect_space.specs.Roomed.{Roomed}

-- how many enrolments more of the student of a number fit without asking for memory
abbrev pub free_for : Roomed → ℕ → ℕ
free_for r n = capacity_of r.rooms n - number_held n r.world.roster

-- how many it has, with those that fit
abbrev pub room_for : Roomed → ℕ → ℕ
room_for r n = number_held n r.world.roster + free_for r n

-- how many rows of the number a list has, with those that fit
abbrev pub room_in : {X : Type 0} → (X → ℕ) → List X → List Room → ℕ → ℕ
room_in key rows rooms n = number_of key n rows + (capacity_of rooms n - number_of key n rows)

-- how many reservations the offering of a number has, with those that fit
abbrev pub reservation_room : Roomed → ℕ → ℕ
reservation_room r n = room_in (λ x. x.offering.0) r.world.reservations r.reservation_rooms n

-- how many restrictions it has, with those that fit
abbrev pub restriction_room : Roomed → ℕ → ℕ
restriction_room r n = room_in (λ x. x.offering.0) r.world.restrictions r.restriction_rooms n

-- so many enrolments more of the student fit
abbrev pub HasRoomFor : InSlots Enrolment → ℕ → Student → Type 0
HasRoomFor r n s = n ≤ capacity_of r.rooms s.row.id.0 - number_held s.row.id.0 r.items

-- so many enrolments more of each known student fit
abbrev pub HasSpare : Roomed → ℕ → Type 0
HasSpare r n = All (λ s. n ≤ free_for r s.row.id.0) r.world.students

-- where the change enrols a student, that fits without asking for memory
abbrev pub HasPlace : Roomed → Change → Type 0
HasPlace r (Offering row) = ⊤
HasPlace r (NewStudent row) = ⊤
HasPlace r (Requests student asks) = ⊤
HasPlace r (Reserve row) = ⊤
HasPlace r (Unreserve id) = ⊤
HasPlace r (Expiry id day) = ⊤
HasPlace r (Restrict row) = ⊤
HasPlace r (Unrestrict id) = ⊤
HasPlace r (new_cap cap limit) = ⊤
HasPlace r (Cancelled id) = ⊤
HasPlace r (Day day) = ⊤
HasPlace r (Enrol e) = 0 < free_for r e.student.0
HasPlace r (Leave student course) = ⊤

-- the lists hold the rows of the other world without asking for memory
pub record HasLists (r : Roomed) (w : World) : Type 0 where
  pub roster : (n : ℕ) → number_held n w.roster ≤ room_for r n
  pub reservations : (n : ℕ) → number_of (λ x. x.offering.0) n w.reservations ≤ reservation_room r n
  pub restrictions : (n : ℕ) → number_of (λ x. x.offering.0) n w.restrictions ≤ restriction_room r n
  pub reservation_ids : length w.reservations ≤ length r.world.reservations + r.reservation_spare
  pub restriction_ids : length w.restrictions ≤ length r.world.restrictions + r.restriction_spare

-- the reservation is known, or a count of its uses is kept
abbrev pub keeps_use : Roomed → ReservationId → Bool
keeps_use r id = is_some (reservation_of r.world id) || list_any (λ k. k == id.0) r.counted_ids

-- the other world's rows fit without asking for memory: those of its lists, and the counts of its reservations' uses
pub record HasRoom (r : Roomed) (w : World) : Type 0 where
  pub lists : HasLists r w
  pub uses : (id : ReservationId) → is_some (reservation_of w id) ≡ true → keeps_use r id ≡ true

-- no list holds fewer rows than before without asking for memory
pub record KeepsLists (r s : Roomed) : Type 0 where
  pub roster : (n : ℕ) → room_for r n ≤ room_for s n
  pub reservations : (n : ℕ) → reservation_room r n ≤ reservation_room s n
  pub restrictions : (n : ℕ) → restriction_room r n ≤ restriction_room s n
  pub reservation_ids : length r.world.reservations + r.reservation_spare ≤ length s.world.reservations + s.reservation_spare
  pub restriction_ids : length r.world.restrictions + r.restriction_spare ≤ length s.world.restrictions + s.restriction_spare

-- no count of uses goes
abbrev pub KeepsUses : Roomed → Roomed → Type 0
KeepsUses r s = (id : ReservationId) → keeps_use r id ≡ true → keeps_use s id ≡ true

-- nothing fits no longer that fitted without asking for memory
pub record KeepsRoom (r s : Roomed) : Type 0 where
  pub lists : KeepsLists r s
  pub uses : KeepsUses r s
