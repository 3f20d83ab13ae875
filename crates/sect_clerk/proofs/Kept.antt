-- The keeper comes back with the rows that it had.
use Rattle.std.proofs.Common.{ℕ, List, refl, sym, subst, inl, inr, Option, None, Some}
use Rattle.sect_command.specs.declared.command.Command.{Command}
use Rattle.sect_command.specs.declared.reply.Reply.{Reply}
use Rattle.sect_edge.specs.Keeper.{KeepsRows}
use Rattle.sect_history.specs.Step.{stepped}
use Rattle.sect_model.specs.World.{empty_state}
use Rattle.sect_once.specs.declared.entry.Entry.{Entry}
use Rattle.sect_wire.specs.Laws.{IsRow}
use Rattle.sect_script.specs.declared.status.Status.{Status}
use Rattle.sect_clerk.specs.Tried.{Tries}
use Rattle.sect_clerk.specs.Clerk.{TellsOf}

-- rows stay where nothing is done
pub keeps_same : (told : Option (List (List ℕ))) → KeepsRows told told
keeps_same None = refl
keeps_same (Some rows) = refl

module _ {K : Type 0} (rows : K → Option (List (List ℕ))) (faults : K → ℕ) (keeper back : K) (left left' taken taken' : Option (List ℕ)) (status : Status) where
  -- the keeper whose history is told has its rows
  pub told_keeps : (IsText : List (Entry Command Reply) → List ℕ → Type 0) → TellsOf rows faults IsText keeper back left left' taken taken' status
      → KeepsRows (rows keeper) (rows back)
  told_keeps IsText (inl told) = subst (λ (k : K). KeepsRows (rows keeper) (rows k)) (sym told.back_is) told.opens.rows_stay
  told_keeps IsText (inr shut) = shut.rows_stay

  -- so has the keeper over whose history lines are tried
  pub tried_keeps : (days : Option (List ℕ)) → Tries empty_state stepped IsRow rows faults keeper back left left' taken taken' days status → KeepsRows (rows keeper) (rows back)
  tried_keeps days (inl tried) = subst (λ (k : K). KeepsRows (rows keeper) (rows k)) (sym tried.back_is) tried.opens.rows_stay
  tried_keeps days (inr shut) = shut.rows_stay
