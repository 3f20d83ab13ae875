-- The wants so far and those of the requests left make up all.
use Rattle.std.proofs.Common.{◌≡◌, ◌+◌, ◌++◌, drop}
use Rattle.sect_best.specs.Plan.{asks_from, course_asks}
use Rattle.sect_best.proofs.wants.wants_of.Given as goal

abbrev pub invariant-loop-ask : goal.invariant-loop-ask
invariant-loop-ask l =
    (l.rank ≡ l.ask-index + 1)
    × (l.wants.items ++ asks_from l.rank (drop l.ask-index l.asks) ≡ course_asks l.asks)
