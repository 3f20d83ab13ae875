-- the rows of the ids so far
use Rattle.std.proofs.Common.{◌≡◌, take}
use Rattle.sect_view.specs.Found.{reservation_rows}
use Rattle.sect_view.proofs.rows.reservations_of.Given as goal

abbrev pub invariant-loop-id : goal.invariant-loop-id
invariant-loop-id l = l.rows.items ≡ reservation_rows l.world.world (take l.id-index l.ids)
