-- the ids of the marks so far
use Rattle.std.proofs.Common.{◌≡◌, map, take}
use Rattle.sect_roster.proofs.IdLemmas.{reservation_id}
use Rattle.sect_roster.proofs.reservations.Reservations.ids.Given as goal

abbrev pub invariant-loop-mark : goal.invariant-loop-mark
invariant-loop-mark l = l.ids.items ≡ map (λ m. reservation_id m.id) (take l.mark-index l.mark-items)
