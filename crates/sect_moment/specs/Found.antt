-- Rows that their ids find.
use Rattle.std.specs.Prelude.{◌≡◌, Option, Some, option_copied}
use Rattle.std.specs.Borrow.{Bor}
use Rattle.std.specs.Option.{option_map, option_and_then}
use Rattle.sect_catalog.specs.Catalogue.{find_section}
use Rattle.sect_model.specs.Data.{CourseId, ReservationId, ConfigRow, SectionRow, Reservation}
use Rattle.sect_model.specs.World.{World, offering_of, reservation_of}
use Rattle.sect_model.specs.Choice.{config_in}

-- the row is the one that its id finds in the course's offering
abbrev pub IsConfig : World → Option CourseId → ConfigRow → Type 0
IsConfig w course row = option_and_then (λ o. config_in o row.id) (option_and_then (offering_of w) course) ≡ Some row

-- the row is the one that its id finds in the catalogue
abbrev pub IsSection : World → SectionRow → Type 0
IsSection w row = find_section w.catalogue.rows row.id ≡ Some row

-- the row is the one that its id finds among the reservations
abbrev pub IsReservation : World → Reservation → Type 0
IsReservation w row = reservation_of w row.id ≡ Some row

-- the id of a reservation, None where there is to be none
abbrev pub id_of : Option (Bor Reservation) → Option ReservationId
id_of row = option_map (λ r. r.now.id) row

-- the row is the one that its id finds, where there is a reservation
abbrev pub IsChosen : World → Option (Bor Reservation) → Type 0
IsChosen w row = option_copied row ≡ option_and_then (reservation_of w) (id_of row)
