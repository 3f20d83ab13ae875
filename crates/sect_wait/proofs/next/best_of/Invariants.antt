-- the best of the entries so far, those of them that must be tried again, and at most one search for each that is sought
use Rattle.std.proofs.Common.{◌≤◌, ◌+◌, take}
use Rattle.sect_wait.specs.Placing.{IsBest, OthersTried}
use Rattle.sect_wait.specs.Touched.{ListsSought, count_sought}
use Rattle.sect_wait.proofs.next.best_of.Given as goal

abbrev pub invariant-loop-entry : goal.invariant-loop-entry
invariant-loop-entry g l =
    IsBest l.world.world (take l.entry-index l.entries) l.best
    × OthersTried l.world.world (take l.entry-index l.entries) l.best l.marks.spent l.left
    × (l.steps ≤ l.initial.steps + count_sought l.marks l.opened (take l.entry-index l.entries))
    × ListsSought l.marks l.opened l.entries l.initial.left.again.items l.left.again.items
