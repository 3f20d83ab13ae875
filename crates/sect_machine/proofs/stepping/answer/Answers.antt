-- A command that isn't refused fits the world.
use Rattle.std.proofs.Common.{◌∙◌, sym}
use Rattle.sect_model.proofs.Accepted.{accepted-fits}
use Rattle.sect_machine.proofs.stepping.answer.Goals as goal

pub marked_act-requires-clause-fits : goal.marked_act-requires-clause-fits
marked_act-requires-clause-fits g c =
    accepted-fits (record { world = c.args.world.now.world; entries = c.entries.result.now; next = 0 }) c.args.caller c.args.command.now c.recall_kept.ensures (sym (c.refusal.ensures 0) ∙ c.in-None.is)
