-- What reservations hold back at a level, as numbers.
use Rattle.std.specs.Prelude.{◌≡◌, ℕ, ◌+◌, ◌≤◌, pos, ◌-ℤ◌, Bool, false, not, ◌&&◌, ◌==◌, nat_lt, cond, List, length, map, filter, find, insert, take, drop, slice_get, sum_by, Option, Some, IsTrue}
use Rattle.std.specs.Option.{option_map_or, is_none, is_some}
use Rattle.sect_base.specs.declared.ids.OfferingId.{OfferingId}
use Rattle.sect_base.specs.declared.limit.Level.{Level}
use Rattle.sect_catalog.specs.Catalogue.{places}
use Rattle.sect_reserve.specs.Audience.{active}
use Rattle.sect_reserve.specs.declared.row.Reservation.{Reservation}
use Rattle.sect_model.specs.declared.held.Enrolment.{Enrolment}
use Rattle.sect_base.specs.declared.ids.ReservationId.{ReservationId}
use Rattle.sect_people.specs.Order.{all_differ}
use Rattle.sect_model.specs.World.{World, used_by, reservation_of, put_behind}
use Rattle.sect_model.specs.Change.{expire, put_expiry, put_day}
use Rattle.sect_model.specs.Counts.{count_of}
use Rattle.sect_model.specs.Space.{names, active_at, remaining, space_of}
use Rattle.sect_numbers.specs.OneMore.{with_roster, OneMore}

-- the places that active reservations still hold back at the level
abbrev pub held_of : World → Level → ℕ
held_of w level = sum_by (remaining w) (active_at w level)

-- the active reservations without a limit that name the level
abbrev pub boundless_of : World → Level → ℕ
boundless_of w level = length (filter (λ r. is_none (places r.limit)) (active_at w level))

-- the reservation is active, names the level and has a limit
abbrev pub holds_at : World → Level → Reservation → Bool
holds_at w level r = (active r w.day && names r level) && is_some (places r.limit)

-- the enrolment takes a place that its reservation held back at the level
abbrev pub takes_held : World → Level → Enrolment → Bool
takes_held w level e = option_map_or (holds_at w level) (used_by w e.choice) false

-- with one enrolment more its reservation holds one place less back, at each level that it names
abbrev pub HeldMore : Type 0
HeldMore =
    (w : World) (more : List Enrolment) (e : Enrolment) (offering : Option OfferingId) (over : Bool) → OneMore w more e offering over → (level : Level)
    → held_of w level ≡ cond (takes_held w level e) 1 0 + held_of (with_roster w more) level

-- the unreserved space is told by the numbers
abbrev pub SpaceByNumbers : Type 0
SpaceByNumbers =
    (w : World) (level : Level) (limit : ℕ)
    → space_of w level limit ≡ cond (nat_lt 0 (boundless_of w level)) (pos 0) (pos limit -ℤ pos (count_of w level + held_of w level))

-- ---- changes of the reservations, and of the day

-- what one reservation holds back at the level
abbrev pub holds : World → Level → Reservation → ℕ
holds w level r = cond (active r w.day && names r level) (remaining w r) 0

-- 1 where the reservation is active, has no limit and names the level
abbrev pub is_boundless : World → Level → Reservation → ℕ
is_boundless w level r = cond (active r w.day && names r level) (cond (is_none (places r.limit)) 1 0) 0

-- the second list has the reservation once more than the first, somewhere
pub record HasMore (rs more : List Reservation) (r : Reservation) : Type 0 where
  pub sums : (f : Reservation → ℕ) → sum_by f more ≡ f r + sum_by f rs

-- the world with these reservations
abbrev pub with_reservations : World → List Reservation → World
with_reservations w rs = record w { reservations = rs }

-- one reservation more holds back what it has left, at each level that it names
abbrev pub ReservationMore : Type 0
ReservationMore =
    (w : World) (more : List Reservation) (r : Reservation) → HasMore w.reservations more r → (level : Level)
    → (held_of (with_reservations w more) level ≡ holds w level r + held_of w level)
    × (boundless_of (with_reservations w more) level ≡ is_boundless w level r + boundless_of w level)

-- one put among those of its offering is one more
abbrev pub ReserveIsMore : Type 0
ReserveIsMore = (r : Reservation) (rs : List Reservation) → HasMore rs (put_behind (λ x. x.offering.0) r rs) r

-- without the one of an id, there was one more
abbrev pub UnreserveIsMore : Type 0
UnreserveIsMore =
    (id : ReservationId) (r : Reservation) (rs : List Reservation) → IsTrue (all_differ (map (λ r. r.id.0) rs)) → find (λ r. r.id.0 == id.0) rs ≡ Some r
    → HasMore (filter (λ r. not (r.id.0 == id.0)) rs) rs r

-- one put back at a place is one more
abbrev pub ReservationPutBack : Type 0
ReservationPutBack = (r : Reservation) (rs : List Reservation) (place : ℕ) → place ≤ length rs → HasMore rs (insert rs place r) r

-- with another expiry day, the one reservation holds back other numbers
abbrev pub ExpiryTurns : Type 0
ExpiryTurns =
    (w : World) (id : ReservationId) (day : Option ℕ) (r : Reservation) → IsTrue (all_differ (map (λ r. r.id.0) w.reservations)) → reservation_of w id ≡ Some r → (level : Level)
    → (held_of (put_expiry w id day) level + holds w level r ≡ held_of w level + holds w level (expire id day r))
    × (boundless_of (put_expiry w id day) level + is_boundless w level r ≡ boundless_of w level + is_boundless w level (expire id day r))

-- what so many first reservations hold back on the one day, and the others on the other
abbrev pub held_between : World → World → Level → ℕ → ℕ
held_between v w level n = sum_by (holds v level) (take n w.reservations) + sum_by (holds w level) (drop n w.reservations)

-- on another day, each reservation in turn holds back what it does on that day
abbrev pub DayTurns : Type 0
DayTurns =
    (w : World) (day : ℕ) (level : Level)
    → (held_between (put_day w day) w level 0 ≡ held_of w level)
    × (held_between (put_day w day) w level (length w.reservations) ≡ held_of (put_day w day) level)
    × ((n : ℕ) (r : Reservation) → slice_get w.reservations n ≡ Some r
    → held_between (put_day w day) w level (n + 1) + holds w level r ≡ held_between (put_day w day) w level n + holds (put_day w day) level r)
