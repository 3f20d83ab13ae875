-- The sections so far and those of the parts left are those of all parts.
use Rattle.std.proofs.Common.{◌≡◌, ◌-◌, ◌≤◌, length}
use Rattle.sect_words.specs.Parts.{pieces}
use Rattle.sect_words.specs.ReadingWords.{few_sections}
use Rattle.sect_words.proofs.Loops.{in_all}
use Rattle.sect_words.proofs.readable.SectionsReadable.read.Given as goal

abbrev pub decreases-loop-part : goal.decreases-loop-part
decreases-loop-part l = length l.parts

abbrev pub invariant-loop-part : goal.invariant-loop-part
invariant-loop-part l = record {
  few : length l.sections ≤ 6;
  whole : in_all l.sections (few_sections (6 - length l.sections) l.parts) ≡ few_sections 6 (pieces 43 l.fn.word);
}
