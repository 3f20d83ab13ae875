-- the tickets so far are noted
use Rattle.std.proofs.Common.{take}
use Rattle.sect_wait.specs.Marked.{NotesMore}
use Rattle.sect_wait.proofs.marking.note_each.Given as goal

abbrev pub invariant-loop-ticket : goal.invariant-loop-ticket
invariant-loop-ticket l = NotesMore (take l.ticket-index l.tickets) l.initial.marks l.marks
