-- The values so far and those that the words left begin with are those that all words begin with.
use Rattle.std.proofs.Common.{◌≤◌, length}
use Rattle.sect_words.specs.Reading.{each_at}
use Rattle.sect_words.proofs.Loops.{Reaches}
use Rattle.sect_read.proofs.read_phrase.read_each.Given as goal

abbrev pub decreases-loop-alloc : goal.decreases-loop-alloc
decreases-loop-alloc g l = length l.words

abbrev pub invariant-loop-alloc : goal.invariant-loop-alloc
invariant-loop-alloc g l = record {
  reaches : Reaches g.T.ReadPhrase.starts (g.T.ReadPhrase.at l.fn.shown) l.items.items l.words (each_at g.T.ReadPhrase.starts (g.T.ReadPhrase.at l.fn.shown) l.fn.words);
  longest : length l.words ≤ length l.fn.words;
}
