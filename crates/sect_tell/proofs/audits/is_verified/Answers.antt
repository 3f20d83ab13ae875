use Rattle.std.proofs.Common.{◌∙◌}
use Rattle.sect_machine.specs.Standing.{state_in}
use Rattle.sect_tell.proofs.Verified.{accepted, searches, tested_ok}
use Rattle.sect_tell.proofs.audits.is_verified.Goals as goal

pub recheck-requires-clause-searches : goal.recheck-requires-clause-searches
recheck-requires-clause-searches c =
    searches c.blocked_is_refuted.ensures.step (state_in c.args.machine.now) c.args.entry.now c.in-Blocked.field-0 c.in-Blocked.tree
    c.recall_kept.ensures.kept c.in-Blocked.is c.requires.replied

pub recheck-requires-clause-accepted : goal.recheck-requires-clause-accepted
recheck-requires-clause-accepted c = (
  c.args.entry.now.id.caller,
  accepted (state_in c.args.machine.now) c.args.entry.now.day c.args.entry.now.id.caller c.args.entry.now.command c.in-Blocked.field-0 c.in-Blocked.tree
      (c.requires.replied ∙ c.in-Blocked.is),
)

pub returns-in-Blocked-clause-answer : goal.returns-in-Blocked-clause-answer
returns-in-Blocked-clause-answer c =
    tested_ok c.blocked_is_refuted.ensures.step (state_in c.args.machine.now) c.args.entry.now c.in-Blocked.field-0 c.in-Blocked.tree c.recheck.result
    c.recall_kept.ensures.kept c.in-Blocked.is c.requires.replied c.recheck.ensures.answer
