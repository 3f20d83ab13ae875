-- The rows of each table as fields, and the text of a table.
use Rattle.std.specs.Prelude.{ℕ, ◌+◌, List, [], ◌∷◌, ◌++◌, codes, decimal}
use Rattle.std.specs.List.{flat_map}
use Rattle.csv.specs.Writing.{default_writer, row_text}
use Rattle.sect_base.specs.declared.ids.StudentId.{StudentId}
use Rattle.sect_catalog.specs.declared.row.OfferingRow.{OfferingRow}
use Rattle.sect_catalog.specs.declared.row.ConfigRow.{ConfigRow}
use Rattle.sect_catalog.specs.declared.row.SubpartRow.{SubpartRow}
use Rattle.sect_catalog.specs.declared.row.SectionRow.{SectionRow}
use Rattle.sect_people.specs.declared.row.StudentRow.{StudentRow}
use Rattle.sect_people.specs.declared.row.Ask.{Ask}
use Rattle.sect_people.specs.declared.row.Ask.TheVariants.{Course, Free}
use Rattle.sect_reserve.specs.declared.row.Reservation.{Reservation}
use Rattle.sect_command.specs.declared.view.Table.{Table}
use Rattle.sect_command.specs.declared.view.Table.TheVariants.{Offerings as offerings, Students as students, Requests as requests, Reservations as reservations}
use Rattle.sect_command.specs.declared.view.View.{View}
use Rattle.sect_command.specs.declared.view.View.TheVariants.{Offerings, Students, Requests, Reservations}
use Rattle.sect_base.specs.MeetingText.{meeting_text}
use Rattle.sect_words.specs.Days.{day_text}
use Rattle.sect_words.specs.Words.{audience_text, course_row_text, course_text, curriculum_text, flag_text, limit_text, list_text, optional_text, section_text}

-- the names of a table's fields
abbrev pub header : Table → List (List ℕ)
header offerings =
    codes "offering" ∷ codes "courses" ∷ codes "config" ∷ codes "config_limit" ∷ codes "subpart"
    ∷ codes "section" ∷ codes "limit" ∷ codes "parent" ∷ codes "meetings" ∷ []
header students = codes "student" ∷ codes "max_credits" ∷ codes "groups" ∷ codes "curricula" ∷ []
header requests = codes "student" ∷ codes "rank" ∷ codes "kind" ∷ codes "value" ∷ codes "wait" ∷ codes "substitute" ∷ []
header reservations =
    codes "reservation" ∷ codes "offering" ∷ codes "audience" ∷ codes "limit" ∷ codes "expiry"
    ∷ codes "configs" ∷ codes "sections" ∷ codes "over" ∷ codes "overlap" ∷ codes "must" ∷ codes "first" ∷ []

-- a section with all in which it stands
abbrev pub section_fields : OfferingRow → ConfigRow → SubpartRow → SectionRow → List (List ℕ)
section_fields o g p s =
    decimal o.id.0 ∷ list_text 43 course_row_text o.courses ∷ decimal g.id.0 ∷ limit_text g.limit
    ∷ decimal p.id.0 ∷ decimal s.id.0 ∷ limit_text s.limit ∷ optional_text section_text s.parent
    ∷ list_text 43 meeting_text s.meetings ∷ []

-- a student
abbrev pub student_fields : StudentRow → List (List ℕ)
student_fields s =
    decimal s.id.0 ∷ decimal s.max_credits ∷ list_text 43 (λ id. decimal id.0) s.groups
    ∷ list_text 59 curriculum_text s.curricula ∷ []

-- a request of a student at a position
abbrev pub ask_fields : StudentId → ℕ → Ask → List (List ℕ)
ask_fields student rank (Course ask) =
    decimal student.0 ∷ decimal rank ∷ codes "course" ∷ list_text 43 course_text ask.courses
    ∷ flag_text ask.wait ∷ flag_text ask.substitute ∷ []
ask_fields student rank (Free meeting) =
    decimal student.0 ∷ decimal rank ∷ codes "free" ∷ meeting_text meeting ∷ codes "0" ∷ codes "0" ∷ []

-- a reservation
abbrev pub reservation_fields : Reservation → List (List ℕ)
reservation_fields r =
    decimal r.id.0 ∷ decimal r.offering.0 ∷ audience_text r.audience ∷ limit_text r.limit ∷ optional_text day_text r.expiry
    ∷ list_text 43 (λ id. decimal id.0) r.includes.configs
    ∷ list_text 43 (λ place. decimal place.section.0) r.includes.sections
    ∷ flag_text r.over ∷ flag_text r.overlap ∷ flag_text r.must ∷ optional_text day_text r.first ∷ []

-- a row as it is written
abbrev pub written : List (List ℕ) → List ℕ
written fields = row_text default_writer fields

-- the rows of a subpart, one for each section
abbrev pub subpart_text : OfferingRow → ConfigRow → SubpartRow → List ℕ
subpart_text o g p = flat_map (λ s. written (section_fields o g p s)) p.sections

-- the rows of a configuration
abbrev pub config_text : OfferingRow → ConfigRow → List ℕ
config_text o g = flat_map (subpart_text o g) g.subparts

-- the rows of an offering
abbrev pub offering_text : OfferingRow → List ℕ
offering_text o = flat_map (config_text o) o.configs

-- the rows of requests, of which the first has this position
abbrev pub asks_text : StudentId → ℕ → List Ask → List ℕ
asks_text student rank [] = []
asks_text student rank (ask ∷ asks) = written (ask_fields student rank ask) ++ asks_text student (rank + 1) asks

-- the rows of a view; only the rows of a table have any
abbrev pub view_text : View → List ℕ
view_text (Offerings rows) = flat_map offering_text rows
view_text (Students rows) = flat_map (λ s. written (student_fields s)) rows
view_text (Requests rows) = flat_map (λ v. asks_text v.student 1 v.asks) rows
view_text (Reservations rows) = flat_map (λ r. written (reservation_fields r)) rows
view_text _ = []

-- the header of a table and the rows of a view
abbrev pub table_text : Table → View → List ℕ
table_text table view = written (header table) ++ view_text view
