use Rattle.std.proofs.Common.{ap, sym, ◌∙◌}
use Rattle.sect_model.specs.Step.{step as step_of}
use Rattle.sect_machine.specs.Standing.{state_in}
use Rattle.test_commands.proofs.machine.judging.refutes.Goals as goal

pub checked-requires : goal.checked-requires
checked-requires c =
    ap (λ s. (step_of s c.args.day c.args.ask.now.id.caller c.args.ask.now.command).reply)
    (c.undo.ensures (state_in c.args.machine.now) c.in_ok-reply.ensures.undo)
    ∙ ap (λ command. (step_of (state_in c.args.machine.now) c.args.day c.args.ask.now.id.caller command).reply) (sym c.in_ok-command.ensures)
    ∙ sym c.in_ok-reply.ensures.reply

pub returns : goal.returns
returns c = c.checked.ensures ∙ c.undo.ensures (state_in c.args.machine.now) c.in_ok-reply.ensures.undo
