-- the copies of the requests so far
use Rattle.std.proofs.Common.{◌≡◌, take}
use Rattle.sect_view.proofs.rows.asks_view.Given as goal

abbrev pub invariant-loop-ask : goal.invariant-loop-ask
invariant-loop-ask l = l.copies.items ≡ take l.ask-index l.asks
