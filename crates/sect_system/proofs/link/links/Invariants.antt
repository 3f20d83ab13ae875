-- the links so far
use Rattle.std.proofs.Common.{◌≡◌, length}
use Rattle.sect_system.proofs.link.links.Given as goal

abbrev pub invariant-loop : goal.invariant-loop
invariant-loop l = length l.links.items ≡ l.counter
