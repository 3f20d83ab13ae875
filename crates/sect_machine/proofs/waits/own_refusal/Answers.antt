-- An unwait is refused exactly where no entry of the student has the ticket.
use Rattle.std.specs.Prelude.{Bool, not}
use Rattle.std.specs.Bool.{then_some}
use Rattle.std.proofs.Common.{◌∙◌, ap, sym}
use Rattle.sect_command.specs.declared.reply.Refusal.TheVariants.{NotWaiting}
use Rattle.sect_refuse.specs.Refused.{own_refusal}
use Rattle.sect_machine.proofs.waits.own_refusal.Goals as goal

pub returns-then-is_waiting : goal.returns-then-is_waiting
returns-then-is_waiting c =
    ap (λ (b : Bool). then_some (not b) NotWaiting) (sym c.if-is_waiting.true ∙ c.is_waiting.ensures) ∙ ap (own_refusal c.args.queue.now.queue.entries) (sym c.in-Unwait.is)

pub returns-else-is_waiting : goal.returns-else-is_waiting
returns-else-is_waiting c =
    ap (λ (b : Bool). then_some (not b) NotWaiting) (sym c.if-is_waiting.false ∙ c.is_waiting.ensures) ∙ ap (own_refusal c.args.queue.now.queue.entries) (sym c.in-Unwait.is)
