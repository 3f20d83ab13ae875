-- the students passed so far have room
use Rattle.std.proofs.Common.{◌≡◌, ◌<◌, ◌≤◌, ℕ, slice_index_or}
use Rattle.sect_people.specs.Student.{Student}
use Rattle.sect_roster.specs.Slots.{capacity_of}
use Rattle.sect_space.specs.Room.{HasRoomFor}
use Rattle.sect_space.proofs.apply.reserve_each.Given as goal

abbrev pub invariant-loop-student : goal.invariant-loop-student
invariant-loop-student l =
    (l.roster.items ≡ l.initial.roster.items)
    × ((m : ℕ) → capacity_of l.initial.roster.rooms m ≤ capacity_of l.roster.rooms m)
    × ((k : ℕ) (d : Student) → k < l.student-index → HasRoomFor l.roster l.n (slice_index_or l.students k d))
