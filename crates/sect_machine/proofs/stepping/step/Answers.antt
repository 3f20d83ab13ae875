-- What is recorded since nothing was leads back.
use Rattle.std.proofs.Common.{◌∙◌, subst, sym}
use Rattle.sect_space.specs.Undo.{Undoable}
use Rattle.sect_space.proofs.Steps.{undoable-none}
use Rattle.sect_wait.proofs.MarkLemmas.{all-others}
use Rattle.sect_machine.proofs.TrackLemmas.{restores, world-back}
use Rattle.sect_machine.proofs.stepping.step.Goals as goal

pub settled-stepped-requires-clause-undoable : goal.settled-stepped-requires-clause-undoable
settled-stepped-requires-clause-undoable g c = subst (Undoable c.args.world.now) (sym c.clear.ensures.world) (undoable-none c.args.world.now c.recall_kept.ensures)

pub returns-in-Ok-clause-undo : goal.returns-in-Ok-clause-undo
returns-in-Ok-clause-undo g c =
    restores c.args.world.now c.settled-stepped.new.world c.clear.new.self.world.backs c.args.queue.now c.settled-stepped.new.queue c.clear.new.self.queue
    (record { world = c.settled-stepped.new.undo; queue = c.settled-stepped.new.queue_undo }) c.recall_kept.ensures c.clear.ensures.world c.clear.ensures.queue c.settled-stepped.ensures.tracked c.requires.resting

pub returns-in-Err-clause-world_err : goal.returns-in-Err-clause-world_err
returns-in-Err-clause-world_err g c =
    c.take_back.ensures.world
    ∙ world-back c.args.world.now c.settled-stepped.new.world c.clear.new.self.world.backs c.settled-stepped.new.undo.backs c.args.queue.now c.settled-stepped.new.queue c.clear.new.self.queue c.settled-stepped.new.queue_undo
    c.recall_kept.ensures c.clear.ensures.world c.settled-stepped.ensures.tracked

pub returns-in-Err-clause-others : goal.returns-in-Err-clause-others
returns-in-Err-clause-others g c = all-others c.take_back.new.world.world c.take_back.new.queue.queue.entries c.settled-stepped.new.marks c.mark_all.new.self c.mark_all.ensures
