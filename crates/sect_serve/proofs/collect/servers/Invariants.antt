-- some links and clocks have workers, and the rest is ahead
use Rattle.std.proofs.Common.{◌≡◌, ◌≤◌, ◌+◌, ◌++◌, All, length, map, take, vec_capacity}
use Rattle.std.specs.Vec.Iter.{into_iter_items, into_iter_len}
use Rattle.sect_serve.proofs.collect.servers.Given as goal

abbrev pub invariant-loop-link : goal.invariant-loop-link
invariant-loop-link g l = record {
  links : map (λ s. s.link) l.works.items ++ into_iter_items l.link-iterator ≡ l.fn.links.items;
  days : map (λ s. g.C.Clock.days s.clock) l.works.items ++ take (length (into_iter_items l.link-iterator)) (map g.C.Clock.days (into_iter_items l.clocks))
      ≡ take (length l.fn.links.items) (map g.C.Clock.days l.fn.clocks.items);
  sessions : All (λ s. s.sessions ≡ l.sessions) l.works.items;
  ahead : into_iter_len l.link-iterator ≡ length (into_iter_items l.link-iterator);
  clocks_ahead : into_iter_len l.clocks ≡ length (into_iter_items l.clocks);
  enough : length (into_iter_items l.link-iterator) ≤ length (into_iter_items l.clocks);
  room : length l.works.items + length (into_iter_items l.link-iterator) ≤ vec_capacity l.works;
  number : l.worker + length (into_iter_items l.link-iterator) ≤ 64;
}
