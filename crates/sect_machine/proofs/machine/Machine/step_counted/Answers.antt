-- What a step leaves rests.
use Rattle.std.proofs.Common.{subst, sym}
use Rattle.sect_model.specs.Kept.{KeptState}
use Rattle.sect_wait.specs.Queued.{state_of}
use Rattle.sect_machine.specs.Standing.{state_in}
use Rattle.sect_machine.proofs.StepLemmas.{rests-after}
use Rattle.sect_machine.proofs.machine.Machine.step_counted.Goals as goal

pub invariant_of-self : goal.invariant_of-self
invariant_of-self g c =
    let w = c.self.inside.world.world in
    let q = c.self.inside.queue.queue in
    let kept : KeptState (state_of w q) = subst (λ m. KeptState (state_in m)) (sym c.self.view_is) c.recall_kept.ensures.kept in (
      rests-after w c.step.new.world.world q c.step.new.queue.queue c.args.day c.args.caller c.args.command.now c.step.result kept c.self.invariant.0
          c.step.ensures.acted c.step.ensures.world_err c.step.ensures.queue_err,
      c.step.ensures.others,
    )
