-- the least of the tickets so far
use Rattle.std.proofs.Common.{take}
use Rattle.sect_refuse.specs.Tickets.{is_shared}
use Rattle.sect_wait.proofs.SharedLemmas.{IsLeastOf}
use Rattle.sect_wait.proofs.queue.Queue.least_shared.Given as goal

abbrev pub invariant-loop-ticket : goal.invariant-loop-ticket
invariant-loop-ticket l = IsLeastOf (is_shared l.student l.courses) l.self.queue.entries (take l.ticket-index l.tickets) l.best
