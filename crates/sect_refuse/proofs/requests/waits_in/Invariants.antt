-- those counted and those to come are all, and at most one of each request
use Rattle.std.proofs.Common.{◌≡◌, ◌≤◌, ◌+◌, length, drop}
use Rattle.std.specs.Prelude.{flat_map}
use Rattle.sect_model.specs.Refusals.{waits_in}
use Rattle.sect_refuse.proofs.requests.waits_in.Given as goal

abbrev pub invariant-loop-ask : goal.invariant-loop-ask
invariant-loop-ask l = record {
  sum : l.total + length (flat_map waits_in (drop l.ask-index l.asks)) ≡ length (flat_map waits_in l.asks);
  few : l.total ≤ l.ask-index;
}
