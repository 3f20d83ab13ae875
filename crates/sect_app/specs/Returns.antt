-- The table that an export writes, and what comes back of it.
use Rattle.std.specs.Prelude.{ℕ, List}
use Rattle.std.specs.List.{AllZip}
use Rattle.sect_command.specs.declared.command.Command.{Command}
use Rattle.sect_command.specs.declared.reply.Reply.{Reply}
use Rattle.sect_command.specs.declared.view.Query.TheVariants.{Rows}
use Rattle.sect_command.specs.declared.view.Table.{Table}
use Rattle.sect_history.specs.Step.{state_of}
use Rattle.sect_model.specs.Look.{look}
use Rattle.sect_once.specs.declared.entry.Entry.{Entry}
use Rattle.sect_return.specs.Again.{AllReturn}
use Rattle.sect_return.specs.Back.{IsReadAs}
use Rattle.sect_return.specs.States.{asks_rows}
use Rattle.sect_wire.specs.Laws.{IsRow}
use Rattle.sect_tell.specs.Views.{IsExport}

-- the text of a table of the state after a history, which comes back
pub record ComesBack (table : Table) (es : List (Entry Command Reply)) (text : List ℕ) : Type 0 where
  pub is_export : IsExport table es text
  -- where the entries have these rows, the text is read, to its end and without a fault, as the commands of the table's rows
  pub reads : (rows : List (List ℕ)) → AllZip IsRow es rows → IsReadAs table text (asks_rows (look (state_of es) (Rows table)))
  -- the commands of all tables of the state, asked of the empty state on any day, are each amended and lead to the same rows in each table
  pub again : (day : ℕ) → AllReturn (state_of es).world day
