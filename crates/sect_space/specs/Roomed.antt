-- The world with the room of its lists.
use Rattle.std.specs.Prelude.{ℕ, List, []}
use Rattle.sect_model.specs.World.{World}
use Rattle.sect_catalog.specs.Catalogue.{Catalogue}
use Rattle.sect_people.specs.Student.{Student}
use Rattle.sect_reserve.specs.declared.row.Reservation.{Reservation}
use Rattle.sect_reserve.specs.declared.row.Restriction.{Restriction}
use Rattle.sect_roster.specs.Listed.{Listed}
use Rattle.sect_roster.specs.Slots.{Room, InSlots}
use Rattle.sect_model.specs.declared.held.Enrolment.{Enrolment}

-- a world, how many enrolments of each student and how many reservations and restrictions of each offering fit without asking
-- for memory, how many ids more of reservations and of restrictions, and the ids of the reservations, known or not, of which a
-- count of uses is kept
pub record Roomed : Type 0 where
  pub world : World
  pub rooms : List Room
  pub reservation_rooms : List Room
  pub restriction_rooms : List Room
  pub reservation_spare : ℕ
  pub restriction_spare : ℕ
  pub counted_ids : List ℕ

-- the world of these parts
abbrev pub world_of : Catalogue → List Student → Listed Reservation → Listed Restriction → InSlots Enrolment → ℕ → World
world_of catalogue students reservations restrictions roster day = record {
  catalogue = catalogue;
  students = students;
  reservations = reservations.items;
  restrictions = restrictions.items;
  roster = roster.items;
  day = day;
}

-- the world of these parts, with the room of its lists; no count is kept
abbrev pub roomed : Catalogue → List Student → Listed Reservation → Listed Restriction → InSlots Enrolment → ℕ → Roomed
roomed catalogue students reservations restrictions roster day = record {
  world = world_of catalogue students reservations restrictions roster day;
  rooms = roster.rooms;
  reservation_rooms = reservations.rooms;
  restriction_rooms = restrictions.rooms;
  reservation_spare = reservations.spare;
  restriction_spare = restrictions.spare;
  counted_ids = [];
}
