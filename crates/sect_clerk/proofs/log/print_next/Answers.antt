-- The entry acts, by a copy of its command, and its lines are those with whom settling placed after it.
use Rattle.std.proofs.Common.{◌≡◌, ap, subst, ◌∙◌, ◌++◌, List}
use Rattle.sect_command.specs.declared.command.Command.{Command}
use Rattle.sect_history.specs.Step.{stepped}
use Rattle.sect_machine.specs.Settling.{placements}
use Rattle.sect_machine.specs.Standing.{state_in}
use Rattle.sect_model.specs.declared.held.Placed.{Placed}
use Rattle.sect_clerk.specs.Log.{told_text}
use Rattle.sect_clerk.proofs.log.print_next.Goals as goal

pub returns-clause-state : goal.returns-clause-state
returns-clause-state c =
    subst (λ (command : Command). state_in c.step_told.new.self ≡ (stepped (state_in c.args.machine.now) c.args.entry.now.day c.args.entry.now.id.caller command).0)
    c.in_ok-command.ensures c.in_ok-step.ensures.state

pub returns-clause-text : goal.returns-clause-text
returns-clause-text c =
    c.in_ok-print_told.ensures
    ∙ ap (λ (ps : List Placed). c.args.into.now.items ++ told_text c.args.log (record { place = c.args.place; entry = c.args.entry.now; placed = ps }))
    (c.as_slice.ensures ∙ c.in_ok-step.ensures.placed ∙ ap (placements (state_in c.args.machine.now) c.args.entry.now.day c.args.entry.now.id.caller) c.in_ok-command.ensures)
