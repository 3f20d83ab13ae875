-- what the lines from the place on join leads to what all join
use Rattle.std.proofs.Common.{◌≡◌, length}
use Rattle.sect_wait.specs.Undo.{Since as QueueSince, Undoable as QueueUndoable}
use Rattle.sect_machine.proofs.AnsweredLemmas.{Joining}
use Rattle.sect_machine.proofs.lines.join_lines.Given as goal

abbrev pub invariant-loop-place : goal.invariant-loop-place
invariant-loop-place l = record {
  length : length l.lines.items ≡ length l.initial.lines.items;
  since : QueueSince l.initial.queue.queue l.initial.queue_undo l.queue.queue l.queue_undo;
  undoable : QueueUndoable l.queue l.queue_undo;
  joining : Joining l.world.world l.initial.queue.queue l.initial.lines.items l.place l.queue.queue l.lines.items;
}
