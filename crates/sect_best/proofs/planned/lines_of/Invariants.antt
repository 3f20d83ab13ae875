-- The lines so far and those left make up all.
use Rattle.std.proofs.Common.{◌≡◌, ◌++◌}
use Rattle.std.specs.Vec.Iter.{into_iter_items}
use Rattle.sect_best.specs.Plan.{lines_of as lines_by}
use Rattle.sect_best.proofs.planned.lines_of.Given as goal

abbrev pub invariant-loop-judged : goal.invariant-loop-judged
invariant-loop-judged l =
    (goal.iterator-loop-judged).can_next l.judged-iterator
    × (goal.iterator-loop-judged).is_finite l.judged-iterator
    × (l.lines.items ++ lines_by l.left (into_iter_items l.judged-iterator) ≡ lines_by l.choices l.fn.verdicts.items)
