-- Rows read in two goes.
use Rattle.std.proofs.Common.{◌≡◌, ℕ, true, false, List, [], ◌∷◌, ◌++◌, Option, append_assoc, ap, refl, sym, ◌∙◌}
use Rattle.sect_command.specs.declared.view.Table.{Table}
use Rattle.sect_csv.specs.Intake.{read_so_far, with_end}
use Rattle.csv.specs.Reading.{strip_bom}
use Rattle.sect_csv.specs.Rows.{all_rows, rows_within, shown_rows, through_last_feed}
use Rattle.sect_tables.specs.Progress.{Progress, opening}
use Rattle.sect_tables.specs.Rows.{Step, at_end, behind, row_read, rows_read}
use Rattle.sect_tables.specs.declared.given.Given.{Given}

-- what was given before in two goes
pub behind-behind : (given others : List Given) (step : Step) → behind given (behind others step) ≡ behind (given ++ others) step
behind-behind given others step = ap (λ all. (step.0, all)) (sym (append_assoc given others step.1))

-- a row read in front of others
pub rows_read-next : (given : List Given) (p : Progress) (row : List (List ℕ)) (rows : List (List (List ℕ))) →
    behind (given ++ (row_read p row).1) (rows_read (row_read p row).0 rows) ≡ behind given (rows_read p (row ∷ rows))
rows_read-next given p row rows = sym (behind-behind given (row_read p row).1 (rows_read (row_read p row).0 rows))

-- rows read behind others
pub rows_read-append : (p : Progress) (rows others : List (List (List ℕ))) →
    rows_read p (rows ++ others) ≡ behind (rows_read p rows).1 (rows_read (rows_read p rows).0 others)
rows_read-append p [] others = refl
rows_read-append p (row ∷ rows) others =
    ap (λ step. behind (row_read p row).1 step) (rows_read-append (row_read p row).0 rows others)
    ∙ behind-behind (row_read p row).1 (rows_read (row_read p row).0 rows).1 (rows_read (rows_read (row_read p row).0 rows).0 others)

-- bytes that show more rows
pub read_so_far-append : (table : Table) (term : Option ℕ) (bytes more : List ℕ) (rows : List (List (List ℕ))) →
    shown_rows more ≡ shown_rows bytes ++ rows →
    read_so_far table term more false
    ≡ behind (read_so_far table term bytes false).1 (rows_read (read_so_far table term bytes false).0 rows)
unfolding read_so_far
read_so_far-append table term bytes more rows shown =
    ap (λ all. rows_read (opening table term) all) shown ∙ rows_read-append (opening table term) (shown_rows bytes) rows

-- all rows, of which some are left
pub read_so_far-end : (table : Table) (term : Option ℕ) (bytes : List ℕ) (rows : List (List (List ℕ))) →
    all_rows bytes ≡ shown_rows bytes ++ rows →
    read_so_far table term bytes true
    ≡ behind (read_so_far table term bytes false).1 (with_end (rows_read (read_so_far table term bytes false).0 rows))
unfolding read_so_far
read_so_far-end table term bytes rows all =
    let shown : Step = rows_read (opening table term) (shown_rows bytes) in
    let left : Step = rows_read shown.0 rows in
    ap (λ rows. with_end (rows_read (opening table term) rows)) all
    ∙ ap with_end (rows_read-append (opening table term) (shown_rows bytes) rows)
    ∙ sym (behind-behind shown.1 left.1 (at_end left.0))

-- no bytes show no rows
pub shown_rows-nothing : shown_rows [] ≡ []
unfolding shown_rows through_last_feed rows_within strip_bom
shown_rows-nothing = refl

pub read_so_far-nothing : (table : Table) (term : Option ℕ) → read_so_far table term [] false ≡ (opening table term, [])
unfolding read_so_far
read_so_far-nothing table term = ap (λ rows. rows_read (opening table term) rows) shown_rows-nothing
