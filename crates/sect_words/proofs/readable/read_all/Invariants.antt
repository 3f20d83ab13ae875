-- The values so far and those of the parts left are those of all parts.
use Rattle.std.proofs.Common.{◌≡◌, length}
use Rattle.sect_words.specs.Parts.{pieces}
use Rattle.sect_words.specs.Reading.{all_of}
use Rattle.sect_words.proofs.Loops.{in_all}
use Rattle.sect_words.proofs.readable.read_all.Given as goal

abbrev pub decreases-loop-parts : goal.decreases-loop-parts
decreases-loop-parts g l = length l.parts

abbrev pub invariant-loop-parts : goal.invariant-loop-parts
invariant-loop-parts g l = in_all l.items.items (all_of g.T.Readable.reads l.parts) ≡ all_of g.T.Readable.reads (pieces l.fn.mark l.fn.word)
