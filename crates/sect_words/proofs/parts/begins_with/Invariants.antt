-- The word's bytes so far stand in front of the part, and the rest of it has room in the text.
use Rattle.std.proofs.Common.{◌≡◌, ◌≤◌, length}
use Rattle.sect_words.specs.Parts.{pieces}
use Rattle.sect_words.specs.Reading.{begins}
use Rattle.sect_words.proofs.parts.begins_with.Given as goal

abbrev pub invariant-loop-other : goal.invariant-loop-other
invariant-loop-other l = (length l.other ≤ length l.rest) × (begins l.other (pieces l.mark l.rest) ≡ begins l.fn.word (pieces l.fn.mark l.fn.text))

abbrev pub decreases-loop-other : goal.decreases-loop-other
decreases-loop-other l = length l.other
