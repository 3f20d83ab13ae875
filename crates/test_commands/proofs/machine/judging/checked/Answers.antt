use Rattle.std.proofs.Common.{◌∙◌}
use Rattle.sect_machine.specs.Standing.{state_in}
use Rattle.test_commands.proofs.machine.judging.checked.Goals as goal

pub recheck-requires-clause-searches : goal.recheck-requires-clause-searches
recheck-requires-clause-searches c =
    c.blocked_commands_are_taken.ensures.searches (state_in c.args.machine.now) c.args.day c.args.caller c.args.command.now c.in-Blocked.field-0
    c.in-Blocked.field-1 c.recall_kept.ensures.kept (c.requires ∙ c.in-Blocked.is)

pub recheck-requires-clause-accepted : goal.recheck-requires-clause-accepted
recheck-requires-clause-accepted c = (
  c.args.caller,
  c.blocked_commands_are_taken.ensures.accepted (state_in c.args.machine.now) c.args.day c.args.caller c.args.command.now c.in-Blocked.field-0
      c.in-Blocked.field-1 (c.requires ∙ c.in-Blocked.is),
)
