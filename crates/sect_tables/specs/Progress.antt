-- A table as far as its rows were read.
use Rattle.std.specs.Prelude.{ℕ, Option, None}
use Rattle.sect_command.specs.declared.view.Table.{Table}
use Rattle.sect_tables.specs.declared.hand.AtHand.{AtHand}
use Rattle.sect_tables.specs.declared.hand.Header.{Header}

-- the table, the term, how many rows were read, their header, the command whose rows may go on, the first row of the command
-- that was begun and not given, and the first row that is not in its form with its first field that is not
pub record Progress : Type 0 where
  pub table : Table
  pub term : Option ℕ
  pub rows : ℕ
  pub header : Option Header
  pub at_hand : Option AtHand
  pub open_row : Option ℕ
  pub fault : Option (ℕ × ℕ)

-- no row was read
abbrev pub opening : Table → Option ℕ → Progress
opening table term = record { table = table; term = term; rows = 0; header = None; at_hand = None; open_row = None; fault = None }
