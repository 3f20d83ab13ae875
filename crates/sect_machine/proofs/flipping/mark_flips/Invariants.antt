-- the entries that want an offering of one of the reservations so far, where it begins or ends, are marked
use Rattle.std.proofs.Common.{take}
use Rattle.std.specs.List.{list_any}
use Rattle.sect_wait.specs.Marked.{MarksMore}
use Rattle.sect_machine.specs.Opening.{flip_opens}
use Rattle.sect_machine.proofs.flipping.mark_flips.Given as goal

abbrev pub invariant-loop-row : goal.invariant-loop-row
invariant-loop-row l = MarksMore (λ e. list_any (λ r. flip_opens l.world.world l.day r e) (take l.row-index l.rows)) l.queue.queue.entries l.initial.marks l.marks
