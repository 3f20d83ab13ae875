-- the lines of the students so far are told
use Rattle.std.proofs.Common.{◌≡◌, [], take}
use Rattle.sect_model.specs.Batch.{batch_students}
use Rattle.sect_space.specs.Undo.{Since, Undoable}
use Rattle.sect_batch.specs.Lines.{Tells}
use Rattle.sect_batch.proofs.batching.all_lines.Given as goal

abbrev pub invariant-loop-student : goal.invariant-loop-student
invariant-loop-student g l =
    (l.world.world.students ≡ l.initial.world.world.students)
    × Since l.initial.world.world l.initial.undo.backs l.world.world l.undo.backs
    × Undoable l.world l.undo.backs
    × Tells l.world.world l.lines (batch_students (record { world = l.initial.world.world; answered = [] }) (take l.student-index l.students))
