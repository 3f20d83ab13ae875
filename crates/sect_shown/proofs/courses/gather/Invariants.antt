-- the courses of the offerings so far
use Rattle.std.proofs.Common.{◌≡◌, take}
use Rattle.sect_once.specs.History.{history, state_after}
use Rattle.sect_shown.specs.Shown.{courses_of}
use Rattle.sect_shown.proofs.courses.gather.Given as goal

abbrev pub invariant-loop-row : goal.invariant-loop-row
invariant-loop-row g l = l.courses.items ≡ courses_of (g.O.Object.looked (state_after g.O.Object.stepped g.O.Object.start (history l.desk.log))) (take l.row-index l.rows)
