-- The courses that are left are still to be given up.
use Rattle.std.proofs.Common.{drop}
use Rattle.sect_space.specs.Undo.{Since, Undoable}
use Rattle.sect_machine.proofs.MoveLemmas.{LeavesOn}
use Rattle.sect_machine.proofs.moves.give_up.Given as goal

abbrev pub invariant-loop-course : goal.invariant-loop-course
invariant-loop-course l =
    LeavesOn l.initial.world.world l.world.world l.student l.courses (drop l.course-index l.courses)
    × Since l.initial.world.world l.initial.undo.backs l.world.world l.undo.backs
    × Undoable l.world l.undo.backs
