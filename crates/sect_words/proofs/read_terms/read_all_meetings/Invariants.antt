-- The meetings so far and those of the words left are those of all words.
use Rattle.std.proofs.Common.{◌≡◌, length}
use Rattle.sect_words.specs.Parts.{pieces}
use Rattle.sect_words.specs.Reading.{all_of}
use Rattle.sect_words.specs.Times.{term_meeting_of}
use Rattle.sect_words.proofs.Loops.{in_all}
use Rattle.sect_words.proofs.read_terms.read_all_meetings.Given as goal

abbrev pub decreases-loop-part : goal.decreases-loop-part
decreases-loop-part l = length l.parts

abbrev pub invariant-loop-part : goal.invariant-loop-part
invariant-loop-part l = in_all l.items.items (all_of (term_meeting_of l.term) l.parts) ≡ all_of (term_meeting_of l.fn.term) (pieces 43 l.fn.word)
