use Rattle.std.proofs.Common.{◌≡◌, take}
use Rattle.sect_machine.specs.Standing.{state_in}
use Rattle.sect_model.specs.World.{empty_state}
use Rattle.sect_once.specs.History.{history, state_after}
use Rattle.sect_tell.specs.Audit.{blocked, verified_from}
use Rattle.sect_history.specs.Step.{stepped}
use Rattle.sect_tell.proofs.audits.audit_on.Given as goal

abbrev pub invariant-loop-place : goal.invariant-loop-place
invariant-loop-place g l = record {
  state : state_in l.machine ≡ state_after stepped empty_state (take l.place (history l.desk.log));
  blocked_is : l.blocked ≡ blocked (take l.place (history l.desk.log));
  verified_is : l.verified ≡ verified_from empty_state (take l.place (history l.desk.log));
}
