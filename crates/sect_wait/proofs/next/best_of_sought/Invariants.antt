-- the best of those that have one of the tickets so far, those of them that must be tried again, and one search for each that
-- was tried
use Rattle.std.proofs.Common.{◌≤◌, ◌+◌, take}
use Rattle.sect_wait.specs.Placing.{Tried}
use Rattle.sect_wait.specs.Touched.{AreOnList, ListsSought, count_tried}
use Rattle.sect_wait.proofs.next.best_of_sought.Given as goal

abbrev pub invariant-loop-ticket : goal.invariant-loop-ticket
invariant-loop-ticket g l =
    Tried l.world.world l.queue.queue.entries (take l.ticket-index l.tickets) l.best l.marks.spent l.left
    × (l.steps ≤ l.initial.steps + count_tried l.marks l.opened l.queue.queue.entries l.tried)
    × AreOnList l.tried (take l.ticket-index l.tickets)
    × ListsSought l.marks l.opened l.queue.queue.entries l.initial.left.again.items l.left.again.items
