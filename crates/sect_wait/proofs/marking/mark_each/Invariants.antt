-- the tickets so far are marked, and none but these tickets
use Rattle.std.proofs.Common.{List, Some, take}
use Rattle.sect_model.specs.declared.held.Waiting.{Waiting}
use Rattle.sect_wait.specs.Indexed.{MarksTold, has_ticket}
use Rattle.sect_wait.specs.Touched.{MarksOnly}
use Rattle.sect_wait.proofs.marking.mark_each.Given as goal

abbrev pub invariant-loop-ticket : goal.invariant-loop-ticket
invariant-loop-ticket l =
    MarksTold (Some (take l.ticket-index l.tickets)) l.initial.marks l.marks × ((es : List Waiting) → MarksOnly (λ e. has_ticket e.ticket l.tickets) es l.initial.marks l.marks)
