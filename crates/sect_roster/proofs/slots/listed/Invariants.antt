-- the rows of the slots passed so far
use Rattle.std.proofs.Common.{◌≡◌, take}
use Rattle.sect_roster.specs.Slots.{all_held}
use Rattle.sect_roster.proofs.slots.listed.Given as goal

abbrev pub invariant-loop-slot : goal.invariant-loop-slot
invariant-loop-slot g l = l.rows.items ≡ all_held (take l.slot-index l.slots)
