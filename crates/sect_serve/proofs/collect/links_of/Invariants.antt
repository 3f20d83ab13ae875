-- some links stand in the list, and the rest is ahead
use Rattle.std.proofs.Common.{◌≡◌, ◌≤◌, ◌+◌, ◌++◌, length, map, vec_capacity}
use Rattle.std.specs.Vec.Iter.{into_iter_items, into_iter_len}
use Rattle.sect_serve.proofs.collect.links_of.Given as goal

abbrev pub invariant-loop-work : goal.invariant-loop-work
invariant-loop-work g l = record {
  links : l.links.items ++ map (λ s. s.link) (into_iter_items l.work-iterator) ≡ map (λ s. s.link) l.fn.works.items;
  ahead : into_iter_len l.work-iterator ≡ length (into_iter_items l.work-iterator);
  room : length l.links.items + length (into_iter_items l.work-iterator) ≤ vec_capacity l.links;
}
