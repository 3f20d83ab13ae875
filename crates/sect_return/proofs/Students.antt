-- The table of students is read back.
use Rattle.std.proofs.Common.{◌≡◌, ℕ, ◌+◌, ◌<◌, List, [], ◌∷◌, ◌++◌, map, append-nil, Option, None, Some, Ok, refl, sym, ap, subst, decimal, arith}
use Rattle.std.specs.Prelude.{flat_map}
use Rattle.sect_command.specs.declared.command.Command.TheVariants as commands
use Rattle.sect_command.specs.declared.view.Table.TheVariants as tables
use Rattle.sect_command.specs.declared.view.View.TheVariants as views
use Rattle.csv.specs.Records.{field_at}
use Rattle.sect_tables.specs.Fields.{field_of}
use Rattle.sect_tables.specs.Lines.{student_fields, student_line}
use Rattle.sect_people.specs.declared.row.StudentRow.{StudentRow}
use Rattle.sect_read.proofs.ValueLaws.{exact_student}
use Rattle.sect_read.proofs.WordLaws.{exact_u16}
use Rattle.sect_read.specs.Fits.{FitsList, FitsStudentRow}
use Rattle.sect_csv.specs.Tables.{student_fields as student_texts}
use Rattle.sect_tables.specs.Rows.{given_of, row_read, student_row, table_row}
use Rattle.sect_tables.specs.declared.hand.AtHand.{AtHand}
use Rattle.sect_tables.specs.declared.hand.Group.TheVariants as groups
use Rattle.sect_words.specs.ReadingWords.{curriculum_of, group_of, list_of, student_of, u16_of}
use Rattle.sect_words.specs.Words.{curriculum_text, list_text}
use Rattle.sect_return.specs.Asked.{asks_student}
use Rattle.sect_return.specs.Back.{StudentsReadBack}
use Rattle.sect_return.proofs.Ends.{Ends, ends_here, ends_with, held, reads_by_rows, standing}
use Rattle.sect_return.proofs.Told.{told_back}
use Rattle.sect_return.proofs.Words.{curricula_back, groups_back}
use Rattle.sect_return.proofs.Written.{shows_fields, shows_rows}

-- the values of a student's fields
values_back : (s : StudentRow) → FitsStudentRow s → student_fields (student_texts s) ≡ Ok s
unfolding student_fields field_of field_at
values_back s fits =
    told_back 1 (student_of (decimal s.id.0)) s.id _ _ (exact_student.again s.id fits.0)
    (told_back 2 (u16_of (decimal s.max_credits)) s.max_credits _ _ (exact_u16.again s.max_credits fits.1)
    (told_back 3 (list_of 43 group_of (list_text 43 (λ id. decimal id.0) s.groups)) s.groups _ _ (groups_back s.groups fits.2)
    (told_back 4 (list_of 59 curriculum_of (list_text 59 curriculum_text s.curricula)) s.curricula _ _ (curricula_back s.curricula fits.3) refl)))

line_back : (s : StudentRow) → FitsStudentRow s → student_line (student_texts s) ≡ Ok s
unfolding student_line
line_back s fits = values_back s fits

-- a student's row begins a command
row_begins : (term : Option ℕ) (rows : ℕ) (hand : Option AtHand) (opened : Option ℕ) (s : StudentRow) → FitsStudentRow s
    → row_read (standing tables.Students term rows hand opened) (student_texts s)
    ≡ (standing tables.Students term (rows + 1) (Some (record { first = rows + 1; group = groups.Row (commands.Student s) })) (Some (rows + 1)), given_of hand)
unfolding row_read table_row student_row
row_begins term rows hand opened s fits = ap (student_row (standing tables.Students term (rows + 1) hand opened)) (line_back s fits)

rows_end : (term : Option ℕ) (rows : ℕ) (hand : Option AtHand) (opened : Option ℕ) (ss : List StudentRow) → 0 < rows → FitsList FitsStudentRow ss
    → Ends (standing tables.Students term rows hand opened) (flat_map (λ s. student_texts s ∷ []) ss) (held hand ++ map asks_student ss)
unfolding given_of
rows_end term rows hand opened [] some fits =
    subst (Ends (standing tables.Students term rows hand opened) []) (sym (append-nil (held hand))) (ends_here tables.Students term rows hand opened some)
rows_end term rows hand opened (s ∷ ss) some fits =
    ends_with (standing tables.Students term rows hand opened) _ (student_texts s) _ (given_of hand) (asks_student s ∷ map asks_student ss) (row_begins term rows hand opened s fits.0)
    (rows_end term (rows + 1) (Some (record { first = rows + 1; group = groups.Row (commands.Student s) })) (Some (rows + 1)) ss (omega arith) fits.1)

-- the table of students is read as the commands of its rows
pub students_read_back : StudentsReadBack
unfolding given_of
students_read_back rows fits term =
    reads_by_rows tables.Students term (views.Students rows) (flat_map (λ s. student_texts s ∷ []) rows) (map asks_student rows)
    (shows_rows student_texts (λ s. shows_fields (student_texts s) refl) rows) (rows_end term 1 None None rows (omega arith) fits)
