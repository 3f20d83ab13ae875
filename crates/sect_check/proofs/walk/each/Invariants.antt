-- The walk over the words that are left is that over all of them.
use Rattle.std.proofs.Common.{◌≤◌, length}
use Rattle.sect_check.specs.Walks.{each_walk}
use Rattle.sect_check.proofs.Each.{Reaches}
use Rattle.sect_check.proofs.walk.each.Given as goal

abbrev pub decreases-loop-alloc : goal.decreases-loop-alloc
decreases-loop-alloc g l = length l.words

abbrev pub invariant-loop-alloc : goal.invariant-loop-alloc
invariant-loop-alloc g l = record {
  reaches : Reaches g.G.Group.starts g.G.Group.walk l.words (each_walk g.G.Group.starts g.G.Group.walk l.fn.words);
  longest : length l.words ≤ length l.fn.words;
}
