-- Commands of tables that have texts.
use Rattle.std.specs.Prelude.{ℕ, Bool, List, Option}
use Rattle.std.specs.List.{AllByRecursion}
use Rattle.sect_command.specs.declared.view.Table.{Table}
use Rattle.sect_csv.specs.Intake.{read_so_far}
use Rattle.sect_read.specs.Fits.{FitsCommand}
use Rattle.sect_tables.specs.declared.given.Given.{Given}

-- each of the commands has a text
abbrev pub FitGiven : List Given → Type 0
FitGiven given = AllByRecursion (λ it. FitsCommand it.command) given

-- whatever bytes a table has, each command that they show has a text
abbrev pub TablesFit : Type 0
TablesFit = (table : Table) (term : Option ℕ) (bytes : List ℕ) (ended : Bool) → FitGiven (read_so_far table term bytes ended).1
