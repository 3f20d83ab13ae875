-- The lines printed and those left make up the text, and what stood before still does.
use Rattle.std.proofs.Common.{◌≡◌, ◌++◌, length, take, drop}
use Rattle.std.specs.List.{flat_map}
use Rattle.sect_survey.specs.Text.{wanted_text}
use Rattle.sect_survey.proofs.text.print_sections.Given as goal

abbrev pub invariant-loop-sum : goal.invariant-loop-sum
invariant-loop-sum l = record {
  whole : l.into.items ++ flat_map wanted_text (drop l.sum-index l.sections) ≡ l.fn.into.items ++ flat_map wanted_text l.sections;
  front : take (length l.fn.into.items) l.into.items ≡ l.fn.into.items;
}
