-- What a desk notes over the commands of a table.
use Rattle.std.proofs.Common.{◌≡◌, ℕ, List, Option}
use Rattle.sect_base.specs.declared.limit.Caller.{Caller}
use Rattle.sect_command.specs.declared.command.Command.{Command}
use Rattle.sect_command.specs.declared.reply.Reply.{Reply}
use Rattle.sect_command.specs.declared.view.Table.{Table}
use Rattle.sect_once.specs.declared.entry.Entry.{Entry}
use Rattle.sect_once.specs.Desks.{IsSound, Standing}
use Rattle.sect_once.specs.Opening.{IsOpened}
use Rattle.sect_script.specs.declared.script.RunEnd.{RunEnd}
use Rattle.sect_script.specs.declared.status.Status.{Status}
use Rattle.sect_script.specs.Statuses.{status_of}
use Rattle.sect_asking.specs.Asks.{Sitting}
use Rattle.sect_asking.proofs.Grows.{grows_ask, grows_each, runs_over}
use Rattle.sect_app.specs.Asking.{AnswersNumbered}
use Rattle.sect_app.specs.Opened.{RunsTable}
use Rattle.sect_app.specs.Numbers.{id_of, numbered}
use Rattle.sect_app.specs.Table.{RanTable}

module _ {O K : Type 0} (start : O) (stepped : O → ℕ → Caller → Command → O × Reply) (is_row : Entry Command Reply → List ℕ → Type 0) (rows : K → Option (List (List ℕ))) (faults : K → ℕ) where
  -- a run over the desk to which the keeper opened
  pub runs_table : (table : Table) (term : Option ℕ) (number : ℕ) (keeper back : K) (opened : Standing O Command Reply K) (first last : Sitting O Command Reply K) (left left' taken taken' days : Option (List ℕ)) (end : RunEnd) (status : Status)
      → IsOpened start stepped is_row rows faults keeper opened
      → first ≡ record { desk = opened; days = days }
      → RanTable (AnswersNumbered stepped is_row rows faults) table term number left left' taken taken' first last end
      → IsSound stepped is_row rows faults start last.desk
      → back ≡ last.desk.keeper → status ≡ status_of end
      → RunsTable start stepped is_row rows faults table term number keeper back left left' taken taken' days status
  runs_table table term number keeper back opened first last left left' taken taken' days end status opens at ran sound is_back is_status =
      runs_over start stepped is_row rows faults (RanTable (AnswersNumbered stepped is_row rows faults) table term number left left' taken taken')
      (λ before after ended r. grows_each stepped is_row rows faults (AnswersNumbered stepped is_row rows faults)
      (λ it one other bytes a. grows_ask stepped is_row rows faults (id_of it.number) a.day it.given.command one.desk other.desk a.answer a.answered)
      (numbered number r.asks.asked) before after r.asks.bytes r.asks.answered)
      keeper back opened first last days end status opens at ran sound is_back is_status
