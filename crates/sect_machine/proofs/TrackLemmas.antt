-- What is tracked: from part to part, and taken back.
use Rattle.std.specs.Prelude.{◌≡◌, List, [], length, drop, refl}
use Rattle.std.proofs.Common.{sym, ◌∙◌, ap}
use Rattle.sect_model.specs.World.{World}
use Rattle.sect_model.specs.Kept.{KeptWorld}
use Rattle.sect_space.specs.declared.back.Back.{Back}
use Rattle.sect_space.specs.Roomed.{Roomed}
use Rattle.sect_space.specs.Undo.{Since, Undoable, undone}
use Rattle.sect_space.proofs.Steps.{since-none, since-both, since-undone}
use Rattle.sect_wait.specs.declared.back.QueueBack.{QueueBack}
use Rattle.sect_wait.specs.Queued.{RoomedQueue, state_of}
use Rattle.sect_wait.specs.Undo.{Since as QueueSince, Undoable as QueueUndoable, undone as queue_undone}
use Rattle.sect_wait.proofs.UndoLemmas.{since-none as queue-since-none, since-joins, since-undone as queue-since-undone}
use Rattle.sect_machine.specs.Tracked.{Tracked}
use Rattle.sect_machine.specs.Standing.{Restores, IsResting}
use Rattle.sect_machine.specs.declared.undo.MachineUndo.{MachineUndo}

-- nothing was changed
pub tracks-none : (w : Roomed) (bs : List Back) (q : RoomedQueue) (js : List QueueBack) → Undoable w bs → QueueUndoable q js → Tracked w bs q js w bs q js
tracks-none w bs q js undoable queue_undoable = record {
  since = since-none w.world bs;
  queue_since = queue-since-none q.queue q.queue js js refl refl;
  undoable = undoable;
  queue_undoable = queue_undoable;
}

-- the world alone was changed
pub tracks-world : (w v : Roomed) (bs cs : List Back) (q : RoomedQueue) (js : List QueueBack) → Since w.world bs v.world cs → Undoable v cs → QueueUndoable q js → Tracked w bs q js v cs q js
tracks-world w v bs cs q js since undoable queue_undoable = record {
  since = since;
  queue_since = queue-since-none q.queue q.queue js js refl refl;
  undoable = undoable;
  queue_undoable = queue_undoable;
}

-- those who wait alone were changed
pub tracks-queue : (w : Roomed) (bs : List Back) (q p : RoomedQueue) (js ks : List QueueBack) → QueueSince q.queue js p.queue ks → Undoable w bs → QueueUndoable p ks → Tracked w bs q js w bs p ks
tracks-queue w bs q p js ks since undoable queue_undoable = record {
  since = since-none w.world bs;
  queue_since = since;
  undoable = undoable;
  queue_undoable = queue_undoable;
}

-- one part after the other
pub tracks-both : {w v u : Roomed} {bs cs ds : List Back} {q p o : RoomedQueue} {js ks ls : List QueueBack} → Tracked w bs q js v cs p ks → Tracked v cs p ks u ds o ls → Tracked w bs q js u ds o ls
tracks-both {w = w} {v = v} {u = u} {bs = bs} {cs = cs} {ds = ds} {q = q} {p = p} {o = o} {js = js} {ks = ks} {ls = ls} a b = record {
  since = since-both w.world v.world u.world bs cs ds a.since b.since;
  queue_since = since-joins q.queue p.queue o.queue js ks ls a.queue_since b.queue_since;
  undoable = b.undoable;
  queue_undoable = b.queue_undoable;
}

-- what was changed since nothing was recorded leads back
pub since-back : (w v : World) (bs cs : List Back) → KeptWorld w → bs ≡ [] → Since w bs v cs → undone v cs ≡ w
since-back w v bs cs kept none since = ap (λ xs. undone v (drop (length xs) cs)) (sym none) ∙ (since-undone w v bs cs kept since).0

pub world-back : (w v : Roomed) (bs cs : List Back) (q p : RoomedQueue) (js ks : List QueueBack) → KeptWorld w.world → bs ≡ [] → Tracked w bs q js v cs p ks → undone v.world cs ≡ w.world
world-back w v bs cs q p js ks kept none t = since-back w.world v.world bs cs kept none t.since

pub queue-back : (w v : Roomed) (bs cs : List Back) (q p : RoomedQueue) (js ks : List QueueBack) → js ≡ [] → Tracked w bs q js v cs p ks → queue_undone p.queue ks ≡ q.queue
queue-back w v bs cs q p js ks none t = ap (λ xs. queue_undone p.queue (drop (length xs) ks)) (sym none) ∙ queue-since-undone q.queue p.queue js ks t.queue_since

pub restores : (w v : Roomed) (bs : List Back) (q p : RoomedQueue) (js : List QueueBack) (u : MachineUndo) → KeptWorld w.world → bs ≡ [] → js ≡ [] → Tracked w bs q js v u.world.backs p u.queue
    → IsResting (state_of w.world q.queue) → Restores (record { world = v; queue = p; changes = u }) (state_of w.world q.queue)
restores w v bs q p js u kept none nobody t resting = record {
  undoable = t.undoable;
  queue_undoable = t.queue_undoable;
  led = λ i. state_of (world-back w v bs u.world.backs q p js u.queue kept none t i) (queue-back w v bs u.world.backs q p js u.queue nobody t i);
  resting = resting;
}
