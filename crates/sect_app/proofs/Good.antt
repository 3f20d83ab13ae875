-- The machine's history is good throughout.
use Rattle.std.proofs.Common.{◌≡◌, ◌⊎◌, ℕ, List, subst, inl, inr, Option}
use Rattle.sect_history.specs.Laws.{ReplaysAreGood}
use Rattle.sect_history.specs.Step.{stepped}
use Rattle.sect_model.specs.World.{empty_state}
use Rattle.sect_once.specs.History.{history}
use Rattle.sect_wire.specs.Laws.{IsRow}
use Rattle.sect_script.specs.declared.status.Status.{Status}
use Rattle.sect_usage.specs.declared.words.Words.{Words}
use Rattle.sect_usage.specs.declared.words.Words.TheVariants as asked
use Rattle.sect_asking.specs.Desk.{Runs}
use Rattle.sect_app.specs.Machine.{DeskDoes}

pub desk_runs : {K : Type 0} (rows : K → Option (List (List ℕ))) (faults : K → ℕ) (keeper back : K)
    (left left' taken taken' days : Option (List ℕ)) (status : Status) → ReplaysAreGood
    → Runs empty_state stepped IsRow rows faults keeper back left left' taken taken' days status
    → DeskDoes rows faults asked.Run keeper back left left' taken taken' days status
desk_runs rows faults keeper back left left' taken taken' days status law (inl runs) =
    inl (record { runs = runs; good = law (history runs.last.desk.log) runs.sound.legal.replies })
desk_runs rows faults keeper back left left' taken taken' days status law (inr shut) = inr shut
