-- the lines of the requests before the place are told
use Rattle.std.proofs.Common.{◌≡◌, ◌-◌, length}
use Rattle.sect_model.specs.Batch.{asks_of}
use Rattle.sect_space.specs.Undo.{Since, Undoable}
use Rattle.sect_batch.specs.Lines.{ToldOn}
use Rattle.sect_batch.proofs.batching.student_lines.Given as goal

abbrev pub invariant-loop-place : goal.invariant-loop-place
invariant-loop-place g l =
    (l.world.world.students ≡ l.initial.world.world.students)
    × Since l.initial.world.world l.initial.undo.backs l.world.world l.undo.backs
    × Undoable l.world l.undo.backs
    × ToldOn l.student (asks_of l.initial.world.world l.student) l.initial.world.world l.initial.lines 0 l.world.world l.lines l.place

abbrev pub decreases-loop-place : goal.decreases-loop-place
decreases-loop-place g l = length (asks_of l.initial.world.world l.student) - l.place
