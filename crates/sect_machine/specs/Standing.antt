-- What contracts see of a machine, what its type keeps, and what taking its last step back restores.
use Rattle.std.specs.Prelude.{◌≡◌, IsTrue}
use Rattle.std.specs.List.{list_all}
use Rattle.sect_model.specs.World.{State}
use Rattle.sect_model.specs.Kept.{entry_fits}
use Rattle.sect_model.specs.Settle.{is_settled}
use Rattle.sect_space.specs.Roomed.{Roomed}
use Rattle.sect_space.specs.Undo.{Undoable, undone}
use Rattle.sect_wait.specs.Queued.{RoomedQueue, state_of}
use Rattle.sect_wait.specs.Undo.{Undoable as QueueUndoable, undone as queue_undone}
use Rattle.sect_machine.specs.declared.undo.MachineUndo.{MachineUndo}

-- a world and a queue, with the room of their lists, and what the last step changed of them
pub record Standing : Type 0 where
  pub world : Roomed
  pub queue : RoomedQueue
  pub changes : MachineUndo

-- the state, without the room and the changes
abbrev pub state_in : Standing → State
state_in s = state_of s.world.world s.queue.queue

-- those who wait fit the world, and none of them can be placed
pub record IsResting (s : State) : Type 0 where
  pub entries_fit : IsTrue (list_all (entry_fits s.world) s.entries)
  pub settled : IsTrue (is_settled s)

-- the changes can be taken back, and lead back to the state
pub record Restores (s : Standing) (before : State) : Type 0 where
  pub undoable : Undoable s.world s.changes.world.backs
  pub queue_undoable : QueueUndoable s.queue s.changes.queue
  pub led : state_of (undone s.world.world s.changes.world.backs) (queue_undone s.queue.queue s.changes.queue) ≡ before
  pub resting : IsResting before
