-- The day is taken back.
use Rattle.std.proofs.Common.{◌∙◌, subst, sym}
use Rattle.sect_space.specs.Undo.{Undoable}
use Rattle.sect_space.proofs.Steps.{undoable-none}
use Rattle.sect_machine.proofs.TrackLemmas.{since-back}
use Rattle.sect_machine.proofs.recheck.refutes_then.Goals as goal

pub refutes_on-refutes-requires-clause-undoable : goal.refutes_on-refutes-requires-clause-undoable
refutes_on-refutes-requires-clause-undoable c = subst (Undoable c.args.world.now) (sym c.empty-undo.ensures) (undoable-none c.args.world.now c.recall_kept.ensures)

pub returns-clause-world : goal.returns-clause-world
returns-clause-world c =
    c.undo.ensures.world
    ∙ since-back c.args.world.now.world c.refutes_on-refutes.new.world.world c.empty-undo.result.backs c.refutes_on-refutes.new.undo.backs c.recall_kept.ensures c.empty-undo.ensures c.refutes_on-refutes.ensures.since
