-- the first of the rest is the first
use Rattle.std.proofs.Common.{◌≡◌, drop}
use Rattle.sect_moment.specs.FreeTimes.{first_free}
use Rattle.sect_moment.proofs.section.first_free.Given as goal

abbrev pub invariant-loop-ask : goal.invariant-loop-ask
invariant-loop-ask l = first_free l.meetings l.rank l.first l.asks ≡ first_free l.meetings l.rank l.number (drop l.ask-index l.asks)
