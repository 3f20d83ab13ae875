-- The tables of a history's state.
use Rattle.std.specs.Prelude.{ℕ, ◌≤◌, ◌^◌, List, [], length, map, flat_map}
use Rattle.std.specs.List.{AllZip}
use Rattle.sect_command.specs.declared.command.Command.{Command}
use Rattle.sect_command.specs.declared.reply.Reply.{Reply}
use Rattle.sect_command.specs.declared.view.Query.TheVariants.{Rows}
use Rattle.sect_command.specs.declared.view.Table.{Table}
use Rattle.sect_command.specs.declared.view.View.{View}
use Rattle.sect_command.specs.declared.view.View.TheVariants.{Offerings, Requests, Reservations, Students}
use Rattle.sect_history.specs.Step.{state_of, stepped}
use Rattle.sect_model.specs.Look.{look}
use Rattle.sect_model.specs.World.{empty_state}
use Rattle.sect_once.specs.History.{IsReplay, NeverFull, history}
use Rattle.sect_once.specs.declared.entry.Entry.{Entry}
use Rattle.sect_once.specs.declared.entry.Note.{Note}
use Rattle.sect_read.specs.Fits.{FitsList}
use Rattle.sect_read.specs.Laws.{IsRow}
use Rattle.sect_rows.specs.Laws.{HasCommand}
use Rattle.sect_return.specs.Asked.{asks_offering, asks_reservation, asks_student, asks_view}
use Rattle.sect_return.specs.Back.{ReadsAs}

-- the commands that ask for the rows of a view; only the rows of a table have any
abbrev pub asks_rows : View → List Command
asks_rows (Offerings rows) = map asks_offering rows
asks_rows (Students rows) = map asks_student rows
asks_rows (Requests views) = flat_map asks_view views
asks_rows (Reservations rows) = map asks_reservation rows
asks_rows _ = []

-- after a history of at most 2^20 commands with texts, whose replies are the machine's, each table of the state is read back as the commands of its rows
abbrev pub StatesReadBack : Type 0
StatesReadBack =
    (entries : List (Entry Command Reply)) (table : Table) → IsReplay stepped empty_state entries → FitsList HasCommand entries → length entries ≤ 2 ^ 20
    → ReadsAs table (look (state_of entries) (Rows table)) (asks_rows (look (state_of entries) (Rows table)))

-- so it is with the history of a log that was never full, whose entries have these rows
abbrev pub LogsReadBack : Type 0
LogsReadBack =
    (log : List (Note Command Reply)) (rows : List (List ℕ)) (table : Table) → IsReplay stepped empty_state (history log) → NeverFull IsRow log → AllZip IsRow (history log) rows
    → ReadsAs table (look (state_of (history log)) (Rows table)) (asks_rows (look (state_of (history log)) (Rows table)))
