-- The world before an entry says what its own day would say.
use Rattle.sect_machine.specs.Standing.{state_in}
use Rattle.sect_clerk.proofs.Few.{few_blocked}
use Rattle.sect_clerk.proofs.Explained.{said_in}
use Rattle.sect_clerk.proofs.explanation.print_entry.Goals as goal

pub explain_reply-requires : goal.explain_reply-requires
explain_reply-requires c = λ visits tree blocks mv is.
    few_blocked (state_in c.args.machine.now) c.args.entry.now.day c.args.entry.now.id.caller c.args.entry.now.command c.args.entry.now.reply visits tree mv
    c.requires.replied blocks is

pub returns : goal.returns
returns c =
    said_in (state_in c.args.machine.now) c.world.result.now.world c.args.entry.now c.args.into.now.items c.explain_reply.new.into.items c.world.ensures
    c.in_ok-explain_reply.ensures.text
