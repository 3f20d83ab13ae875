-- the rows of the ids so far
use Rattle.std.proofs.Common.{◌≡◌, take}
use Rattle.sect_view.specs.Found.{student_rows}
use Rattle.sect_view.proofs.rows.students_of.Given as goal

abbrev pub invariant-loop-id : goal.invariant-loop-id
invariant-loop-id l = l.rows.items ≡ student_rows l.world.world (take l.id-index l.ids)
