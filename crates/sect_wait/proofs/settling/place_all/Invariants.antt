-- settling what is left gives what settling all gives, the changes made so far can be taken back, and the searches are counted
use Rattle.std.proofs.Common.{length}
use Rattle.sect_space.specs.Undo.{Since, Undoable}
use Rattle.sect_wait.specs.Opened.{OthersBut}
use Rattle.sect_wait.specs.Undo.{Since as QueueSince, Undoable as QueueUndoable}
use Rattle.sect_wait.proofs.SettlingLemmas.{Settling}
use Rattle.sect_wait.proofs.TouchedLemmas.{Counting}
use Rattle.sect_wait.proofs.settling.place_all.Given as goal

abbrev pub invariant-rounds : goal.invariant-rounds
invariant-rounds g l =
    Settling l.initial.world.world l.initial.queue.queue l.world.world l.queue.queue l.placed.items
    × Since l.initial.world.world l.initial.undo.backs l.world.world l.undo.backs
    × QueueSince l.initial.queue.queue l.initial.queue_undo l.queue.queue l.queue_undo
    × Undoable l.world l.undo.backs
    × QueueUndoable l.queue l.queue_undo
    × OthersBut l.world.world l.queue.queue.entries l.marks l.opened
    × Counting l.initial.world.world l.initial.queue.queue l.initial.marks l.initial.opened.courses.items l.initial.steps l.world.world l.queue.queue l.marks l.opened.courses.items l.placed.items l.steps

abbrev pub decreases-rounds : goal.decreases-rounds
decreases-rounds g l = length l.queue.queue.entries
