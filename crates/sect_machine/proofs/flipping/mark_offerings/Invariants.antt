-- the entries that want one of the offerings so far, of which a reservation begins or ends, are marked
use Rattle.std.proofs.Common.{take}
use Rattle.std.specs.List.{list_any}
use Rattle.sect_wait.specs.Marked.{MarksMore}
use Rattle.sect_machine.specs.Opening.{flip_opens_of}
use Rattle.sect_machine.proofs.flipping.mark_offerings.Given as goal

abbrev pub invariant-loop-row : goal.invariant-loop-row
invariant-loop-row l = MarksMore (λ e. list_any (λ o. flip_opens_of l.world.world l.day o e) (take l.row-index l.rows)) l.queue.queue.entries l.initial.marks l.marks
