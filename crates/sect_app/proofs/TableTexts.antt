-- What a table gives has a text.
use Rattle.std.proofs.Common.{◌≡◌, ℕ, ◌+◌, zero, suc, true, false, Bool, List, [], ◌∷◌, ◌++◌, Option, None, Some, Result, Ok, Err, refl, subst}
use Rattle.std.specs.Str.{bytes_eq}
use Rattle.std.proofs.lemmas.Option.{cond_some}
use Rattle.sect_base.specs.declared.ids.StudentId.{StudentId}
use Rattle.sect_command.specs.declared.command.Command.TheVariants as commands
use Rattle.sect_command.specs.declared.command.ReserveRow.{ReserveRow}
use Rattle.sect_command.specs.declared.view.Table.{Table}
use Rattle.sect_command.specs.declared.view.Table.TheVariants.{Offerings, Students, Requests, Reservations}
use Rattle.sect_csv.specs.Intake.{read_so_far, with_end}
use Rattle.sect_tables.specs.Fields.{field_of}
use Rattle.sect_tables.specs.Lines.{ask_line, reservation_line, section_line, student_line}
use Rattle.sect_tables.specs.declared.line.SectionLine.{SectionLine}
use Rattle.sect_people.specs.declared.row.Ask.{Ask}
use Rattle.sect_people.specs.declared.row.StudentRow.{StudentRow}
use Rattle.sect_csv.specs.Rows.{all_rows, shown_rows}
use Rattle.sect_tables.specs.Headers.{first_difference, names_of}
use Rattle.sect_tables.specs.Offerings.{OfferingSoFar, offering_begun, offering_with}
use Rattle.sect_tables.specs.Progress.{Progress, opening}
use Rattle.sect_tables.specs.Requests.{RequestsSoFar, next_rank, requests_begun, requests_with}
use Rattle.sect_tables.specs.Rows.{Step, at_end, begun, behind, command_of, end_after, failed, first_row, given_of, gone_on, has_first, header_read, is_old_header, next_row, offering_first, offering_in, offering_next, offering_row, requests_first, requests_in, requests_next, requests_row, reservation_row, row_after, row_read, rows_read, same_offering, same_student, student_row, table_row}
use Rattle.sect_tables.specs.declared.given.Given.{Given}
use Rattle.sect_tables.specs.declared.hand.AtHand.{AtHand}
use Rattle.sect_tables.specs.declared.hand.Group.{Group}
use Rattle.sect_tables.specs.declared.hand.Group.TheVariants as groups
use Rattle.sect_tables.specs.declared.hand.Header.{Header}
use Rattle.sect_read.specs.Fits.{FitsCommand, FitsOfferingRow}
use Rattle.sect_app.specs.Fitting.{FitGiven, TablesFit}
use Rattle.sect_app.proofs.Groups.{FitsRequests, all_append, offering_begun_fits, offering_with_fits, requests_begun_fits, requests_with_fits}
use Rattle.sect_app.proofs.Lines.{FitsSectionLine, ask_line_fits, reservation_line_fits, section_line_fits, student_line_fits}

-- the command at hand has a text, where there is one
abbrev FitsHand : Option AtHand → Type 0
FitsHand None = Unit {0}
FitsHand (Some hand) = FitsCommand (command_of hand.group)

-- the command at hand and those given have texts
abbrev StepFits : Step → Type 0
StepFits step = FitsHand step.0.at_hand × FitGiven step.1

given_fits : (hand : Option AtHand) → FitsHand hand → FitGiven (given_of hand)
unfolding given_of
given_fits None fits = tt
given_fits (Some hand) fits = (fits, tt)

begun_fits : (p : Progress) (group : Group) → FitsHand p.at_hand → FitsCommand (command_of group) → StepFits (begun p group)
begun_fits p group hand fits = (fits, given_fits p.at_hand hand)

-- ---- offerings

offering_first_fits : (p : Progress) (row : List (List ℕ)) (line : Result SectionLine ℕ) → FitsHand p.at_hand → ((l : SectionLine) → line ≡ Ok l → FitsSectionLine l)
    → StepFits (offering_first p row line)
offering_first_fits p row (Err field) hand fits = (tt, tt)
offering_first_fits p row (Ok line) hand fits = begun_fits p (groups.Offering (offering_begun row line)) hand (offering_begun_fits row line (fits line refl))

offering_next_fits : (p : Progress) (row : List (List ℕ)) (first : ℕ) (so_far : OfferingSoFar) (line : Result SectionLine ℕ) → FitsOfferingRow so_far.row
    → ((l : SectionLine) → line ≡ Ok l → FitsSectionLine l) → StepFits (offering_next p row first so_far line)
offering_next_fits p row first so_far (Err field) before fits = (tt, tt)
offering_next_fits p row first so_far (Ok line) before fits = (offering_with_fits so_far row line before (fits line refl), tt)

offering_row_fits : (p : Progress) (row : List (List ℕ)) (same : Option (ℕ × OfferingSoFar)) → FitsHand p.at_hand
    → ((found : ℕ × OfferingSoFar) → same ≡ Some found → FitsOfferingRow found.1.row) → StepFits (offering_row p row same)
unfolding offering_row
offering_row_fits p row None hand before = offering_first_fits p row (section_line p.term None row) hand (section_line_fits p.term None row)
offering_row_fits p row (Some (first, so_far)) hand before =
    offering_next_fits p row first so_far (section_line p.term (Some so_far.before) row) (before (first, so_far) refl) (section_line_fits p.term (Some so_far.before) row)

offering_in_fits : (first : ℕ) (group : Group) (name : List ℕ) (found : ℕ × OfferingSoFar) → FitsCommand (command_of group) → offering_in first group name ≡ Some found → FitsOfferingRow found.1.row
offering_in_fits first (groups.Offering so_far) name found fits e =
    let test = cond_some (bytes_eq so_far.name name) (first, so_far) found e in
    subst (λ (f : ℕ × OfferingSoFar). FitsOfferingRow f.1.row) test.1 fits
offering_in_fits first (groups.Row command) name found fits e = absurd (cc)
offering_in_fits first (groups.Requests so_far) name found fits e = absurd (cc)

same_offering_fits : (hand : Option AtHand) (name : List ℕ) (found : ℕ × OfferingSoFar) → FitsHand hand → same_offering hand name ≡ Some found → FitsOfferingRow found.1.row
unfolding same_offering
same_offering_fits None name found fits e = absurd (cc)
same_offering_fits (Some hand) name found fits e = offering_in_fits hand.first hand.group name found fits e

-- ---- requests

requests_first_fits : (p : Progress) (row : List (List ℕ)) (line : Result (StudentId × Ask) ℕ) → FitsHand p.at_hand → ((l : StudentId × Ask) → line ≡ Ok l → FitsRequests (requests_begun row l))
    → StepFits (requests_first p row line)
requests_first_fits p row (Err field) hand fits = (tt, tt)
requests_first_fits p row (Ok line) hand fits = begun_fits p (groups.Requests (requests_begun row line)) hand (fits line refl)

requests_next_fits : (p : Progress) (first : ℕ) (so_far : RequestsSoFar) (line : Result (StudentId × Ask) ℕ) → ((l : StudentId × Ask) → line ≡ Ok l → FitsRequests (requests_with so_far l))
    → StepFits (requests_next p first so_far line)
requests_next_fits p first so_far (Err field) fits = (tt, tt)
requests_next_fits p first so_far (Ok line) fits = (fits line refl, tt)

requests_row_fits : (p : Progress) (row : List (List ℕ)) (same : Option (ℕ × RequestsSoFar)) → FitsHand p.at_hand → ((found : ℕ × RequestsSoFar) → same ≡ Some found → FitsRequests found.1)
    → StepFits (requests_row p row same)
unfolding requests_row
requests_row_fits p row None hand before =
    requests_first_fits p row (ask_line 1 row) hand (λ l e. requests_begun_fits row l (ask_line_fits 1 row l e))
requests_row_fits p row (Some (first, so_far)) hand before =
    requests_next_fits p first so_far (ask_line (next_rank so_far) row) (λ l e. requests_with_fits so_far l (before (first, so_far) refl) (ask_line_fits (next_rank so_far) row l e))

requests_in_fits : (first : ℕ) (group : Group) (name : List ℕ) (found : ℕ × RequestsSoFar) → FitsCommand (command_of group) → requests_in first group name ≡ Some found → FitsRequests found.1
requests_in_fits first (groups.Requests so_far) name found fits e =
    let test = cond_some (bytes_eq so_far.name name) (first, so_far) found e in
    subst (λ (f : ℕ × RequestsSoFar). FitsRequests f.1) test.1 fits
requests_in_fits first (groups.Row command) name found fits e = absurd (cc)
requests_in_fits first (groups.Offering so_far) name found fits e = absurd (cc)

same_student_fits : (hand : Option AtHand) (name : List ℕ) (found : ℕ × RequestsSoFar) → FitsHand hand → same_student hand name ≡ Some found → FitsRequests found.1
unfolding same_student
same_student_fits None name found fits e = absurd (cc)
same_student_fits (Some hand) name found fits e = requests_in_fits hand.first hand.group name found fits e

-- ---- the other tables

student_row_fits : (p : Progress) (row : List (List ℕ)) (line : Result StudentRow ℕ) → student_line row ≡ line → FitsHand p.at_hand → StepFits (student_row p line)
unfolding student_row
student_row_fits p row (Err field) is hand = (tt, tt)
student_row_fits p row (Ok student) is hand = begun_fits p (groups.Row (commands.Student student)) hand (student_line_fits row student is)

reservation_row_fits : (p : Progress) (has_first : Bool) (row : List (List ℕ)) (line : Result ReserveRow ℕ) → reservation_line has_first row ≡ line → FitsHand p.at_hand → StepFits (reservation_row p line)
unfolding reservation_row
reservation_row_fits p has_first row (Err field) is hand = (tt, tt)
reservation_row_fits p has_first row (Ok reservation) is hand = begun_fits p (groups.Row (commands.Reserve reservation)) hand (reservation_line_fits has_first row reservation is)

-- ---- rows

table_row_fits : (table : Table) (p : Progress) (header : Header) (row : List (List ℕ)) → FitsHand p.at_hand → StepFits (table_row table p header row)
unfolding table_row
table_row_fits Offerings p header row hand = offering_row_fits p row (same_offering p.at_hand (field_of row 1)) hand (λ found e. same_offering_fits p.at_hand (field_of row 1) found hand e)
table_row_fits Students p header row hand = student_row_fits p row (student_line row) refl hand
table_row_fits Requests p header row hand = requests_row_fits p row (same_student p.at_hand (field_of row 1)) hand (λ found e. same_student_fits p.at_hand (field_of row 1) found hand e)
table_row_fits Reservations p header row hand = reservation_row_fits p (has_first header) row (reservation_line (has_first header) row) refl hand

header_read_fits : (p : Progress) (is_old : Bool) (differs : Option ℕ) → FitsHand p.at_hand → StepFits (header_read p is_old differs)
header_read_fits p true differs hand = (hand, tt)
header_read_fits p false None hand = (hand, tt)
header_read_fits p false (Some field) hand = (tt, tt)

next_row_fits : (p : Progress) (header : Option Header) (row : List (List ℕ)) → FitsHand p.at_hand → StepFits (next_row p header row)
unfolding first_row
next_row_fits p None row hand = header_read_fits p (is_old_header p.table row) (first_difference row (names_of p.table)) hand
next_row_fits p (Some header) row hand = table_row_fits p.table p header row hand

row_after_fits : (fault : Option (ℕ × ℕ)) (p : Progress) (row : List (List ℕ)) → FitsHand p.at_hand → StepFits (row_after fault p row)
row_after_fits (Some fault) p row hand = (hand, tt)
row_after_fits None p row hand = next_row_fits (record p { rows = p.rows + 1 }) p.header row hand

row_read_fits : (p : Progress) (row : List (List ℕ)) → FitsHand p.at_hand → StepFits (row_read p row)
unfolding row_read
row_read_fits p row hand = row_after_fits p.fault p row hand

behind_fits : (given : List Given) (step : Step) → FitGiven given → StepFits step → StepFits (behind given step)
behind_fits given step front fits = (fits.0, all_append (λ (it : Given). FitsCommand it.command) given step.1 front fits.1)

rows_read_fits : (p : Progress) (rows : List (List (List ℕ))) → FitsHand p.at_hand → StepFits (rows_read p rows)
rows_read_fits p [] hand = (hand, tt)
rows_read_fits p (row ∷ rows) hand =
    let here = row_read_fits p row hand in
    behind_fits (row_read p row).1 (rows_read (row_read p row).0 rows) here.1 (rows_read_fits (row_read p row).0 rows here.0)

end_after_fits : (fault : Option (ℕ × ℕ)) (rows : ℕ) (p : Progress) → FitsHand p.at_hand → StepFits (end_after fault rows p)
end_after_fits (Some fault) rows p hand = (hand, tt)
end_after_fits None zero p hand = (hand, tt)
end_after_fits None (suc rows) p hand = (tt, given_fits p.at_hand hand)

at_end_fits : (p : Progress) → FitsHand p.at_hand → StepFits (at_end p)
unfolding at_end
at_end_fits p hand = end_after_fits p.fault p.rows p hand

pub tables_fit : TablesFit
unfolding read_so_far
tables_fit table term bytes false = (rows_read_fits (opening table term) (shown_rows bytes) tt).1
tables_fit table term bytes true =
    let step = rows_read_fits (opening table term) (all_rows bytes) tt in
    (behind_fits (rows_read (opening table term) (all_rows bytes)).1 (at_end (rows_read (opening table term) (all_rows bytes)).0) step.1
    (at_end_fits (rows_read (opening table term) (all_rows bytes)).0 step.0)).1
