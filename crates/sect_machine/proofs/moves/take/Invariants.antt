-- The choices that are left are still to be taken.
use Rattle.std.proofs.Common.{drop}
use Rattle.sect_space.specs.Undo.{Since, Undoable}
use Rattle.sect_machine.proofs.MoveLemmas.{TakesOn}
use Rattle.sect_machine.proofs.moves.take.Given as goal

abbrev pub invariant-loop-choice : goal.invariant-loop-choice
invariant-loop-choice l =
    TakesOn l.initial.world.world l.world.world l.student l.choices (drop l.choice-index l.choices)
    × Since l.initial.world.world l.initial.undo.backs l.world.world l.undo.backs
    × Undoable l.world l.undo.backs
