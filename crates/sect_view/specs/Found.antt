-- The rows that are found by ids, in the order of the ids.
use Rattle.std.specs.Prelude.{List, Option, filter_map}
use Rattle.std.specs.Option.{option_map}
use Rattle.sect_command.specs.declared.view.AsksView.{AsksView}
use Rattle.sect_catalog.specs.Catalogue.{find_offering}
use Rattle.sect_people.specs.Student.{find_student}
use Rattle.sect_model.specs.Data.{OfferingRow, OfferingId, Reservation, ReservationId, StudentId, StudentRow}
use Rattle.sect_model.specs.World.{World, reservation_of}

-- the offerings of the ids
abbrev pub offering_rows : World → List OfferingId → List OfferingRow
offering_rows w ids = filter_map (find_offering w.catalogue.rows) ids

-- the reservations of the ids
abbrev pub reservation_rows : World → List ReservationId → List Reservation
reservation_rows w ids = filter_map (reservation_of w) ids

-- the row of a student
abbrev pub student_row : World → StudentId → Option StudentRow
student_row w id = option_map (λ s. s.row) (find_student w.students id)

-- the students of the ids
abbrev pub student_rows : World → List StudentId → List StudentRow
student_rows w ids = filter_map (student_row w) ids

-- what a student asks for
abbrev pub request_row : World → StudentId → Option AsksView
request_row w id = option_map (λ s. record { student = id; asks = s.asks }) (find_student w.students id)

-- what the students of the ids ask for
abbrev pub request_rows : World → List StudentId → List AsksView
request_rows w ids = filter_map (request_row w) ids
