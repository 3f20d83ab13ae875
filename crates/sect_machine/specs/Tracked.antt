-- That what was changed can be taken back.
use Rattle.std.specs.Prelude.{List}
use Rattle.sect_space.specs.declared.back.Back.{Back}
use Rattle.sect_space.specs.Roomed.{Roomed}
use Rattle.sect_space.specs.Undo.{Since, Undoable}
use Rattle.sect_wait.specs.declared.back.QueueBack.{QueueBack}
use Rattle.sect_wait.specs.Queued.{RoomedQueue}
use Rattle.sect_wait.specs.Undo.{Since as QueueSince, Undoable as QueueUndoable}

-- changes led from the one world and queue to the other, were recorded behind those before, and can be taken back
pub record Tracked (w : Roomed) (backs : List Back) (q : RoomedQueue) (left : List QueueBack) (w_now : Roomed) (backs_now : List Back) (q_now : RoomedQueue) (left_now : List QueueBack) : Type 0 where
  pub since : Since w.world backs w_now.world backs_now
  pub queue_since : QueueSince q.queue left q_now.queue left_now
  pub undoable : Undoable w_now backs_now
  pub queue_undoable : QueueUndoable q_now left_now
