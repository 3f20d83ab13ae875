-- The commands that ask for the rows of a table.
use Rattle.std.specs.Prelude.{List, [], ◌∷◌, map}
use Rattle.sect_base.specs.declared.ids.StudentId.{StudentId}
use Rattle.sect_catalog.specs.declared.row.OfferingRow.{OfferingRow}
use Rattle.sect_command.specs.declared.command.Command.{Command}
use Rattle.sect_command.specs.declared.command.Command.TheVariants as commands
use Rattle.sect_command.specs.declared.command.ReserveRow.{ReserveRow}
use Rattle.sect_command.specs.declared.view.AsksView.{AsksView}
use Rattle.sect_people.specs.declared.row.Ask.{Ask}
use Rattle.sect_people.specs.declared.row.StudentRow.{StudentRow}
use Rattle.sect_reserve.specs.declared.row.Reservation.{Reservation}

-- the command for an offering
abbrev pub asks_offering : OfferingRow → Command
asks_offering row = commands.Offering row

-- the command for a student
abbrev pub asks_student : StudentRow → Command
asks_student row = commands.Student row

-- the command for a student's requests; a student without requests has no row, and so no command
abbrev pub asks_requests : StudentId → List Ask → List Command
asks_requests student [] = []
asks_requests student (ask ∷ asks) = commands.Requests student (ask ∷ asks) ∷ []

-- the command for the requests of a view
abbrev pub asks_view : AsksView → List Command
asks_view view = asks_requests view.student view.asks

-- the row of a reservation, whose places are listed as sections
abbrev pub row_from : Reservation → ReserveRow
row_from r = record {
  id = r.id;
  offering = r.offering;
  audience = r.audience;
  limit = r.limit;
  first = r.first;
  expiry = r.expiry;
  configs = r.includes.configs;
  sections = map (λ place. place.section) r.includes.sections;
  over = r.over;
  overlap = r.overlap;
  must = r.must;
}

-- the command for a reservation
abbrev pub asks_reservation : Reservation → Command
asks_reservation r = commands.Reserve (row_from r)
