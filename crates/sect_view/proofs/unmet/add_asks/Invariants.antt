-- the unmet ones of the requests so far, and the rank of the next
use Rattle.std.proofs.Common.{◌≡◌, ◌++◌, ◌+◌, take}
use Rattle.sect_view.specs.Unmet.{unmet_among}
use Rattle.sect_view.proofs.unmet.add_asks.Given as goal

abbrev pub invariant-loop-ask : goal.invariant-loop-ask
invariant-loop-ask l = record {
  views : l.views.items ≡ l.initial.views.items ++ unmet_among l.world.world l.student (take l.ask-index l.asks);
  rank : l.rank ≡ l.ask-index + 1;
}
