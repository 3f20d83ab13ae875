-- A view of the world and those who wait is one of the state.
use Rattle.std.proofs.Common.{◌≡◌, subst}
use Rattle.std.specs.Prelude.{IfOk}
use Rattle.sect_model.specs.Look.{look}
use Rattle.sect_machine.specs.Standing.{state_in}
use Rattle.sect_machine.proofs.StepLemmas.{looks}
use Rattle.sect_machine.proofs.machine.Machine.view.Goals as goal

pub returns : goal.returns
returns c =
    subst (λ m. IfOk c.view.result (λ v. v ≡ look (state_in m) c.args.query.now)) c.self.view_is
    (looks c.self.inside.world.world c.self.inside.queue.queue c.entries.result.now c.args.query.now c.view.result c.entries.ensures c.view.ensures)
