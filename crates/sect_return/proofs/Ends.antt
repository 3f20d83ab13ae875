-- Rows of a table, one after the other, to the end.
use Rattle.std.proofs.Common.{◌≡◌, ℕ, zero, suc, ◌<◌, List, [], ◌∷◌, ◌++◌, append_assoc, Option, None, Some, refl, sym, ap, ◌∙◌, subst, arith, true}
use Rattle.std.proofs.lemmas.List.{map-append}
use Rattle.sect_command.specs.declared.command.Command.{Command}
use Rattle.sect_command.specs.declared.view.Table.{Table}
use Rattle.sect_command.specs.declared.view.Table.TheVariants.{Offerings, Requests, Reservations, Students}
use Rattle.sect_command.specs.declared.view.View.{View}
use Rattle.sect_csv.specs.Intake.{read_so_far, with_end}
use Rattle.sect_csv.specs.Tables.{header, table_text, view_text}
use Rattle.sect_tables.specs.Progress.{Progress, opening}
use Rattle.sect_tables.specs.Rows.{Step, at_end, behind, first_row, given_of, row_read, rows_read}
use Rattle.sect_tables.specs.declared.given.Given.{Given}
use Rattle.sect_tables.specs.declared.hand.AtHand.{AtHand}
use Rattle.sect_tables.specs.declared.hand.Header.TheVariants.{Whole}
use Rattle.sect_return.specs.Back.{Gives, commands_in}
use Rattle.sect_return.proofs.Written.{Shows, table_rows}

-- a table behind its header, with a command at hand
abbrev pub standing : Table → Option ℕ → ℕ → Option AtHand → Option ℕ → Progress
standing table term rows hand opened = record { table = table; term = term; rows = rows; header = Some Whole; at_hand = hand; open_row = opened; fault = None }

-- the rows and the end behind them give these commands
abbrev pub Ends : Progress → List (List (List ℕ)) → List Command → Type 0
Ends p rows commands = Gives (with_end (rows_read p rows)) commands

-- the command at hand
abbrev pub held : Option AtHand → List Command
held hand = commands_in (given_of hand)

-- at the end the command at hand is given
pub ends_here : (table : Table) (term : Option ℕ) (rows : ℕ) (hand : Option AtHand) (opened : Option ℕ) → 0 < rows → Ends (standing table term rows hand opened) [] (held hand)
unfolding at_end
ends_here table term zero hand opened some = absurd (omega (arith, some))
ends_here table term (suc rows) hand opened some = (refl, refl)

gives_behind : (step : Step) (given : List Given) (commands : List Command) → Gives (with_end step) commands → Gives (with_end (behind given step)) (commands_in given ++ commands)
gives_behind step given commands gives = (
  ap commands_in (append_assoc given step.1 (at_end step.0).1) ∙ map-append (λ (g : Given). g.command) given (step.1 ++ (at_end step.0).1) ∙ ap (λ others. commands_in given ++ others) gives.0,
  gives.1,
)

-- a row, and what is behind it
pub ends_with : (p q : Progress) (row : List (List ℕ)) (rows : List (List (List ℕ))) (given : List Given) (commands : List Command) → row_read p row ≡ (q, given) → Ends q rows commands
    → Ends p (row ∷ rows) (commands_in given ++ commands)
ends_with p q row rows given commands read ends =
    subst (λ (step : Step). Gives (with_end (behind step.1 (rows_read step.0 rows))) (commands_in given ++ commands)) (sym read) (gives_behind (rows_read q rows) given commands ends)

-- the first row is the header
header_row : (table : Table) (term : Option ℕ) → row_read (opening table term) (header table) ≡ (standing table term 1 None None, [])
unfolding row_read first_row
header_row Offerings term = refl
header_row Students term = refl
header_row Requests term = refl
header_row Reservations term = refl

-- a table is read by its rows
pub reads_by_rows : (table : Table) (term : Option ℕ) (view : View) (rows : List (List (List ℕ))) (commands : List Command) → Shows (view_text view) rows → Ends (standing table term 1 None None) rows commands
    → Gives (read_so_far table term (table_text table view) true) commands
unfolding read_so_far
reads_by_rows table term view rows commands shows ends =
    subst (λ all. Ends (opening table term) all commands) (sym (table_rows table view rows shows))
    (ends_with (opening table term) (standing table term 1 None None) (header table) rows [] commands (header_row table term) ends)
