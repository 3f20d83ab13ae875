-- what the reservations so far hold back
use Rattle.std.proofs.Common.{◌≡◌, ◌≤◌, ◌*◌, ◌&&◌, cond, sum_by, take}
use Rattle.sect_reserve.specs.Audience.{active}
use Rattle.sect_model.specs.Space.{names, remaining}
use Rattle.sect_space.proofs.world.World.held_back.Given as goal

abbrev pub invariant-loop-row : goal.invariant-loop-row
invariant-loop-row l =
    (l.sum ≡ sum_by (λ r. cond (active r l.self.world.day && names r l.level) (remaining l.self.world r) 0) (take l.row-index l.rows))
    × (l.sum ≤ l.row-index * 4294967295)
