-- The courses so far and those of the parts left are those of all parts.
use Rattle.std.proofs.Common.{◌≡◌, length}
use Rattle.sect_words.specs.Parts.{pieces}
use Rattle.sect_words.specs.Reading.{all_of}
use Rattle.sect_words.specs.ReadingWords.{course_of}
use Rattle.sect_words.proofs.Loops.{in_all}
use Rattle.sect_words.proofs.readable.read_courses.Given as goal

abbrev pub decreases-loop-parts : goal.decreases-loop-parts
decreases-loop-parts l = length l.parts

abbrev pub invariant-loop-parts : goal.invariant-loop-parts
invariant-loop-parts l = in_all l.courses (all_of course_of l.parts) ≡ all_of course_of (pieces 43 l.fn.word)
