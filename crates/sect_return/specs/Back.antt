-- What is read of a table's text.
use Rattle.std.specs.Prelude.{◌≡◌, ℕ, ◌<◌, true, List, length, map, flat_map, Option, None, IsTrue}
use Rattle.sect_catalog.specs.declared.row.ConfigRow.{ConfigRow}
use Rattle.sect_catalog.specs.declared.row.OfferingRow.{OfferingRow}
use Rattle.sect_catalog.specs.declared.row.SubpartRow.{SubpartRow}
use Rattle.sect_command.specs.declared.command.Command.{Command}
use Rattle.sect_command.specs.declared.view.AsksView.{AsksView}
use Rattle.sect_command.specs.declared.view.Table.{Table}
use Rattle.sect_command.specs.declared.view.Table.TheVariants as tables
use Rattle.sect_command.specs.declared.view.View.{View}
use Rattle.sect_command.specs.declared.view.View.TheVariants.{Offerings, Requests, Reservations, Students}
use Rattle.sect_csv.specs.Intake.{read_so_far}
use Rattle.sect_people.specs.Order.{all_differ}
use Rattle.sect_people.specs.declared.row.StudentRow.{StudentRow}
use Rattle.sect_read.specs.Fits.{FitsAsk, FitsList, FitsOfferingRow, FitsReserveRow, FitsStudent, FitsStudentRow}
use Rattle.sect_reserve.specs.declared.row.Reservation.{Reservation}
use Rattle.sect_csv.specs.Tables.{table_text}
use Rattle.sect_tables.specs.Rows.{Step}
use Rattle.sect_tables.specs.declared.given.Given.{Given}
use Rattle.sect_return.specs.Asked.{asks_offering, asks_reservation, asks_student, asks_view, row_from}

-- the commands that a reading gives, without the numbers of their rows
abbrev pub commands_in : List Given → List Command
commands_in given = map (λ g. g.command) given

-- the reading gives these commands, and no row was bad
abbrev pub Gives : Step → List Command → Type 0
Gives step commands = (commands_in step.1 ≡ commands) × (step.0.fault ≡ None)

-- the whole text is read as these commands, with a term and without one
abbrev pub IsReadAs : Table → List ℕ → List Command → Type 0
IsReadAs table text commands = (term : Option ℕ) → Gives (read_so_far table term text true) commands

-- so is the text of a table
abbrev pub ReadsAs : Table → View → List Command → Type 0
ReadsAs table view commands = IsReadAs table (table_text table view) commands

-- the requests of a view have texts
abbrev pub FitsAsks : AsksView → Type 0
FitsAsks view = FitsStudent view.student × FitsList FitsAsk view.asks

-- the row of a reservation has a text
abbrev pub FitsReservationRow : Reservation → Type 0
FitsReservationRow r = FitsReserveRow (row_from r)

-- a subpart has a section
abbrev pub HasSections : SubpartRow → Type 0
HasSections p = 0 < length p.sections

-- a configuration has a subpart, each of its subparts a section, and no two of them one id
abbrev pub HasSubparts : ConfigRow → Type 0
HasSubparts g = (0 < length g.subparts) × FitsList HasSections g.subparts × IsTrue (all_differ (map (λ p. p.id.0) g.subparts))

-- an offering has a course and a configuration, each of its configurations a subpart, and no two of them one id
abbrev pub HasConfigs : OfferingRow → Type 0
HasConfigs o = (0 < length o.courses) × (0 < length o.configs) × FitsList HasSubparts o.configs × IsTrue (all_differ (map (λ g. g.id.0) o.configs))

-- offerings with texts, in which nothing is empty, and of which no two have one id, are read back
abbrev pub OfferingsReadBack : Type 0
OfferingsReadBack = (rows : List OfferingRow) → FitsList FitsOfferingRow rows → FitsList HasConfigs rows → IsTrue (all_differ (map (λ o. o.id.0) rows))
    → ReadsAs tables.Offerings (Offerings rows) (map asks_offering rows)

-- students with texts are read back
abbrev pub StudentsReadBack : Type 0
StudentsReadBack = (rows : List StudentRow) → FitsList FitsStudentRow rows → ReadsAs tables.Students (Students rows) (map asks_student rows)

-- requests with texts, of students of whom no two have one id, are read back
abbrev pub RequestsReadBack : Type 0
RequestsReadBack = (views : List AsksView) → FitsList FitsAsks views → IsTrue (all_differ (map (λ v. v.student.0) views))
    → ReadsAs tables.Requests (Requests views) (flat_map asks_view views)

-- reservations with texts are read back
abbrev pub ReservationsReadBack : Type 0
ReservationsReadBack = (rows : List Reservation) → FitsList FitsReservationRow rows → ReadsAs tables.Reservations (Reservations rows) (map asks_reservation rows)
