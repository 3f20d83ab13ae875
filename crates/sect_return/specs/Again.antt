-- A table's commands asked again.
use Rattle.std.specs.Prelude.{◌≡◌, ℕ, List, [], ◌∷◌, flat_map, ⊤}
use Rattle.sect_base.specs.declared.limit.Caller.{Caller}
use Rattle.sect_base.specs.declared.limit.Caller.TheVariants.{Registrar}
use Rattle.sect_command.specs.declared.command.Command.{Command}
use Rattle.sect_command.specs.declared.reply.Reply.{Reply}
use Rattle.sect_command.specs.declared.reply.Reply.TheVariants.{Amended}
use Rattle.sect_command.specs.declared.view.Table.{Table}
use Rattle.sect_command.specs.declared.view.Table.TheVariants as tables
use Rattle.sect_history.specs.Step.{state_of, stepped}
use Rattle.sect_model.specs.Look.{rows_view}
use Rattle.sect_model.specs.Step.{step}
use Rattle.sect_model.specs.World.{State, World, empty_state}
use Rattle.sect_once.specs.History.{IsReplay}
use Rattle.sect_once.specs.declared.entry.Entry.{Entry}
use Rattle.sect_return.specs.States.{asks_rows}

-- who asks the commands of a table
abbrev pub registrar : Caller
registrar = Registrar 0

-- the state behind commands that are asked one after another on a day
abbrev pub state_behind : State → ℕ → List Command → State
state_behind s day [] = s
state_behind s day (command ∷ commands) = state_behind (step s day registrar command).state day commands

-- each of them is answered that the state was amended
abbrev pub AllAmended : State → ℕ → List Command → Type 0
AllAmended s day [] = ⊤
AllAmended s day (command ∷ commands) = ((step s day registrar command).reply ≡ Amended) × AllAmended (step s day registrar command).state day commands

-- the commands of a world's table, asked of the empty state on a day, are each amended, and lead to a world with the same rows
abbrev pub Returns : World → Table → ℕ → Type 0
Returns w table day =
    AllAmended empty_state day (asks_rows (rows_view w table))
    × (rows_view (state_behind empty_state day (asks_rows (rows_view w table))).world table ≡ rows_view w table)

-- so do those of the students of the state of each history whose replies are the machine's, on any day
abbrev pub StudentsReturn : Type 0
StudentsReturn = (entries : List (Entry Command Reply)) (day : ℕ) → IsReplay stepped empty_state entries → Returns (state_of entries).world tables.Students day

-- the tables in the order in which each names only what those before it made
abbrev pub tables_in_order : List Table
tables_in_order = tables.Offerings ∷ tables.Students ∷ tables.Requests ∷ tables.Reservations ∷ []

-- the commands of all tables of a world
abbrev pub asks_tables : World → List Command
asks_tables w = flat_map (λ table. asks_rows (rows_view w table)) tables_in_order

-- asked of the empty state on a day, they are each amended, and lead to a world with the same rows in each table
abbrev pub AllReturn : World → ℕ → Type 0
AllReturn w day =
    AllAmended empty_state day (asks_tables w)
    × ((table : Table) → rows_view (state_behind empty_state day (asks_tables w)).world table ≡ rows_view w table)

-- so it is with the tables of the state of each history whose replies are the machine's, on any day
abbrev pub TablesReturn : Type 0
TablesReturn = (entries : List (Entry Command Reply)) (day : ℕ) → IsReplay stepped empty_state entries → AllReturn (state_of entries).world day
