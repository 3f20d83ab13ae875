-- The machine's history is good throughout.
use Rattle.std.proofs.Common.{ℕ, List, Option, inl, inr}
use Rattle.sect_command.specs.declared.view.Table.{Table}
use Rattle.sect_history.specs.Laws.{ReplaysAreGood}
use Rattle.sect_history.specs.Step.{stepped}
use Rattle.sect_model.specs.World.{empty_state}
use Rattle.sect_once.specs.History.{history}
use Rattle.sect_wire.specs.Laws.{IsRow}
use Rattle.sect_script.specs.declared.status.Status.{Status}
use Rattle.sect_app.specs.Import.{Imports}
use Rattle.sect_app.specs.Opened.{TakesTable}

-- the machine's history is good throughout
pub imports : {K : Type 0} (rows : K → Option (List (List ℕ))) (faults : K → ℕ) (table : Table) (term : Option ℕ) (first : ℕ) (keeper back : K)
    (left left' taken taken' days : Option (List ℕ)) (status : Status) → ReplaysAreGood
    → TakesTable empty_state stepped IsRow rows faults table term first keeper back left left' taken taken' days status
    → Imports rows faults table term first keeper back left left' taken taken' days status
imports rows faults table term first keeper back left left' taken taken' days status law (inl runs) =
    inl (record { runs = runs; good = law (history runs.last.desk.log) runs.sound.legal.replies })
imports rows faults table term first keeper back left left' taken taken' days status law (inr shut) = inr shut
