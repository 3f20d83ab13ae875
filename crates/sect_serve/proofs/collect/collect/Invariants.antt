-- some links stand in the list, and the rest is ahead
use Rattle.std.proofs.Common.{◌≡◌, ◌≤◌, ◌+◌, ◌++◌, length, map, vec_capacity}
use Rattle.std.specs.Vec.Iter.{into_iter_items, into_iter_len}
use Rattle.sect_serve.specs.Serving.{worst}
use Rattle.sect_serve.specs.declared.serving.ServeEnd.TheVariants.{Done}
use Rattle.sect_serve.proofs.collect.collect.Given as goal

abbrev pub invariant-loop-back : goal.invariant-loop-back
invariant-loop-back g l = record {
  links : l.links.items ++ map (λ b. b.link) (into_iter_items l.back-iterator) ≡ map (λ b. b.link) l.fn.given.items;
  ends : worst l.end (map (λ b. b.end) (into_iter_items l.back-iterator)) ≡ worst Done (map (λ b. b.end) l.fn.given.items);
  ahead : into_iter_len l.back-iterator ≡ length (into_iter_items l.back-iterator);
  room : length l.links.items + length (into_iter_items l.back-iterator) ≤ vec_capacity l.links;
}
