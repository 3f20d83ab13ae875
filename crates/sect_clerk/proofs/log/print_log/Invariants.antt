-- The log of the entries before the place.
use Rattle.std.proofs.Common.{◌≡◌, ◌++◌, take}
use Rattle.sect_history.specs.Step.{state_of}
use Rattle.sect_machine.specs.Standing.{state_in}
use Rattle.sect_once.specs.History.{history}
use Rattle.sect_clerk.specs.Log.{log_text}
use Rattle.sect_clerk.proofs.log.print_log.Given as goal

abbrev pub invariant-loop-place : goal.invariant-loop-place
invariant-loop-place g l = record {
  state : state_in l.machine ≡ state_of (take l.place (history l.desk.log));
  text : l.into.items ≡ l.initial.into.items ++ log_text l.log (take l.place (history l.desk.log));
}
