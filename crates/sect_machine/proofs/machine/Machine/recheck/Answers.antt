-- The move of a command that isn't refused fits.
use Rattle.std.proofs.Common.{◌≡◌, subst, sym}
use Rattle.std.specs.Prelude.{None}
use Rattle.sect_model.specs.Kept.{KeptState}
use Rattle.sect_model.specs.Refusals.{refusal_of}
use Rattle.sect_model.specs.Step.{on_day}
use Rattle.sect_wait.specs.Queued.{state_of}
use Rattle.sect_machine.specs.Standing.{state_in}
use Rattle.sect_machine.proofs.StepLemmas.{accepted-move}
use Rattle.sect_machine.proofs.machine.Machine.recheck.Goals as goal

pub refutes_then-requires-clause-fits : goal.refutes_then-requires-clause-fits
refutes_then-requires-clause-fits c = λ mv is.
    let s = state_of c.self.inside.world.world c.self.inside.queue.queue in
    let kept : KeptState s = subst (λ m. KeptState (state_in m)) (sym c.self.view_is) c.recall_kept.ensures.kept in
    let accepted : refusal_of (on_day s c.args.day) c.requires.accepted.0 c.args.command.now ≡ None
    = subst (λ m. refusal_of (on_day (state_in m) c.args.day) c.requires.accepted.0 c.args.command.now ≡ None) (sym c.self.view_is) c.requires.accepted.1 in
    accepted-move s c.args.day c.requires.accepted.0 c.args.command.now mv kept accepted is
