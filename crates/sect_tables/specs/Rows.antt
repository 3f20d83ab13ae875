-- What each row of a table shows to be complete. The rows are counted from 1, which is the header.
use Rattle.std.specs.Prelude.{bytes_eq, ℕ, zero, suc, ◌+◌, Bool, true, false, List, [], ◌∷◌, ◌++◌, Option, None, Some, Result, Ok, Err, is_none}
use Rattle.sect_base.specs.declared.ids.StudentId.{StudentId}
use Rattle.sect_command.specs.declared.command.Command.{Command}
use Rattle.sect_command.specs.declared.command.Command.TheVariants as commands
use Rattle.sect_command.specs.declared.command.ReserveRow.{ReserveRow}
use Rattle.sect_command.specs.declared.view.Table.{Table}
use Rattle.sect_command.specs.declared.view.Table.TheVariants.{Offerings, Students, Requests, Reservations}
use Rattle.sect_tables.specs.Fields.{field_of}
use Rattle.sect_tables.specs.Lines.{ask_line, reservation_line, section_line, student_line}
use Rattle.sect_tables.specs.declared.line.SectionLine.{SectionLine}
use Rattle.sect_people.specs.declared.row.Ask.{Ask}
use Rattle.sect_people.specs.declared.row.StudentRow.{StudentRow}
use Rattle.sect_tables.specs.Headers.{first_difference, names_of, old_reservation_names}
use Rattle.sect_tables.specs.Offerings.{OfferingSoFar, offering_begun, offering_with}
use Rattle.sect_tables.specs.Progress.{Progress}
use Rattle.sect_tables.specs.Requests.{RequestsSoFar, next_rank, requests_begun, requests_with}
use Rattle.sect_tables.specs.declared.given.Given.{Given}
use Rattle.sect_tables.specs.declared.hand.AtHand.{AtHand}
use Rattle.sect_tables.specs.declared.hand.Group.{Group}
use Rattle.sect_tables.specs.declared.hand.Group.TheVariants as groups
use Rattle.sect_tables.specs.declared.hand.Header.{Header}
use Rattle.sect_tables.specs.declared.hand.Header.TheVariants.{Whole, WithoutFirst}
use Rattle.sect_words.specs.Reading.{only_where}

-- what a table has become, and what it gives
abbrev pub Step : Type 0
Step = Progress × List Given

-- the command of rows
abbrev pub command_of : Group → Command
command_of (groups.Row command) = command
command_of (groups.Offering so_far) = commands.Offering so_far.row
command_of (groups.Requests so_far) = commands.Requests so_far.student so_far.asks

-- the command at hand, where there is one, with the number of its first row
unfoldable pub given_of : Option AtHand → List Given
given_of None = []
given_of (Some hand) = record { row = hand.first; command = command_of hand.group } ∷ []

-- the row is bad in this field, and what was at hand is given up: it stays begun, and is never given
abbrev pub failed : Progress → ℕ → Step
failed p field = (record p { at_hand = None; fault = Some (p.rows, field) }, [])

-- the row begins another command, so that the one at hand is complete
abbrev pub begun : Progress → Group → Step
begun p group = (record p { at_hand = Some (record { first = p.rows; group = group }); open_row = Some p.rows }, given_of p.at_hand)

-- the row goes on with the command at hand, which has this first row
abbrev pub gone_on : Progress → ℕ → Group → Step
gone_on p first group = (record p { at_hand = Some (record { first = first; group = group }) }, [])

-- the row is the old header of reservations
abbrev pub is_old_header : Table → List (List ℕ) → Bool
is_old_header Reservations row = is_none (first_difference row old_reservation_names)
is_old_header Offerings row = false
is_old_header Students row = false
is_old_header Requests row = false

-- the header: the old one, or the table's own, from which a row may differ in a field
abbrev pub header_read : Progress → Bool → Option ℕ → Step
header_read p true differs = (record p { header = Some WithoutFirst }, [])
header_read p false None = (record p { header = Some Whole }, [])
header_read p false (Some field) = failed p field

-- the first row
unfoldable pub first_row : Progress → List (List ℕ) → Step
first_row p row = header_read p (is_old_header p.table row) (first_difference row (names_of p.table))

-- the offering of this text, with its first row
abbrev pub offering_in : ℕ → Group → List ℕ → Option (ℕ × OfferingSoFar)
offering_in first (groups.Offering so_far) name = only_where (bytes_eq so_far.name name) (first, so_far)
offering_in first (groups.Row command) name = None
offering_in first (groups.Requests so_far) name = None

-- the offering at hand, where it is the one of this text
unfoldable pub same_offering : Option AtHand → List ℕ → Option (ℕ × OfferingSoFar)
same_offering None name = None
same_offering (Some hand) name = offering_in hand.first hand.group name

-- a section begins an offering
abbrev pub offering_first : Progress → List (List ℕ) → Result SectionLine ℕ → Step
offering_first p row (Err field) = failed p field
offering_first p row (Ok line) = begun p (groups.Offering (offering_begun row line))

-- a section goes on with the offering at hand
abbrev pub offering_next : Progress → List (List ℕ) → ℕ → OfferingSoFar → Result SectionLine ℕ → Step
offering_next p row first so_far (Err field) = failed p field
offering_next p row first so_far (Ok line) = gone_on p first (groups.Offering (offering_with so_far row line))

-- a row of offerings, with the offering that it goes on with
unfoldable pub offering_row : Progress → List (List ℕ) → Option (ℕ × OfferingSoFar) → Step
offering_row p row None = offering_first p row (section_line p.term None row)
offering_row p row (Some (first, so_far)) = offering_next p row first so_far (section_line p.term (Some so_far.before) row)

-- the requests of the student of this text, with their first row
abbrev pub requests_in : ℕ → Group → List ℕ → Option (ℕ × RequestsSoFar)
requests_in first (groups.Requests so_far) name = only_where (bytes_eq so_far.name name) (first, so_far)
requests_in first (groups.Row command) name = None
requests_in first (groups.Offering so_far) name = None

-- the requests at hand, where they are those of the student of this text
unfoldable pub same_student : Option AtHand → List ℕ → Option (ℕ × RequestsSoFar)
same_student None name = None
same_student (Some hand) name = requests_in hand.first hand.group name

-- a request begins a student's requests
abbrev pub requests_first : Progress → List (List ℕ) → Result (StudentId × Ask) ℕ → Step
requests_first p row (Err field) = failed p field
requests_first p row (Ok line) = begun p (groups.Requests (requests_begun row line))

-- a request goes on with those at hand
abbrev pub requests_next : Progress → ℕ → RequestsSoFar → Result (StudentId × Ask) ℕ → Step
requests_next p first so_far (Err field) = failed p field
requests_next p first so_far (Ok line) = gone_on p first (groups.Requests (requests_with so_far line))

-- a row of requests, with the requests that it goes on with
unfoldable pub requests_row : Progress → List (List ℕ) → Option (ℕ × RequestsSoFar) → Step
requests_row p row None = requests_first p row (ask_line 1 row)
requests_row p row (Some (first, so_far)) = requests_next p first so_far (ask_line (next_rank so_far) row)

-- a row of students
unfoldable pub student_row : Progress → Result StudentRow ℕ → Step
student_row p (Err field) = failed p field
student_row p (Ok student) = begun p (groups.Row (commands.Student student))

-- a row of reservations
unfoldable pub reservation_row : Progress → Result ReserveRow ℕ → Step
reservation_row p (Err field) = failed p field
reservation_row p (Ok reservation) = begun p (groups.Row (commands.Reserve reservation))

-- a reservation says its first day
abbrev pub has_first : Header → Bool
has_first Whole = true
has_first WithoutFirst = false

-- a row behind the header
unfoldable pub table_row : Table → Progress → Header → List (List ℕ) → Step
table_row Offerings p header row = offering_row p row (same_offering p.at_hand (field_of row 1))
table_row Students p header row = student_row p (student_line row)
table_row Requests p header row = requests_row p row (same_student p.at_hand (field_of row 1))
table_row Reservations p header row = reservation_row p (reservation_line (has_first header) row)

-- a row, which is the header where there is none yet
abbrev pub next_row : Progress → Option Header → List (List ℕ) → Step
next_row p None row = first_row p row
next_row p (Some header) row = table_row p.table p header row

-- a row, where there is no fault before it
abbrev pub row_after : Option (ℕ × ℕ) → Progress → List (List ℕ) → Step
row_after (Some fault) p row = (p, [])
row_after None p row = next_row (record p { rows = p.rows + 1 }) p.header row

-- the next row of a table
unfoldable pub row_read : Progress → List (List ℕ) → Step
row_read p row = row_after p.fault p row

-- the end of a table with these many rows; without any it is bad in field 0 of row 1
abbrev pub end_after : Option (ℕ × ℕ) → ℕ → Progress → Step
end_after (Some fault) rows p = (p, [])
end_after None zero p = (record p { fault = Some (1, 0) }, [])
end_after None (suc rows) p = (record p { at_hand = None; open_row = None }, given_of p.at_hand)

-- the end of a table
unfoldable pub at_end : Progress → Step
at_end p = end_after p.fault p.rows p

-- what was given before, and then what a table gives
abbrev pub behind : List Given → Step → Step
behind given step = (step.0, given ++ step.1)

-- rows of a table, one after the other
abbrev pub rows_read : Progress → List (List (List ℕ)) → Step
rows_read p [] = (p, [])
rows_read p (row ∷ rows) = behind (row_read p row).1 (rows_read (row_read p row).0 rows)
