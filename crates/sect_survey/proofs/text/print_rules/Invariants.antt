-- The lines printed and those left make up the text, and what stood before still does.
use Rattle.std.proofs.Common.{◌≡◌, ◌++◌, length, take, drop}
use Rattle.std.specs.List.{flat_map}
use Rattle.sect_survey.specs.Text.{rule_text}
use Rattle.sect_survey.proofs.text.print_rules.Given as goal

abbrev pub invariant-loop-sum : goal.invariant-loop-sum
invariant-loop-sum l = record {
  whole : l.into.items ++ flat_map rule_text (drop l.sum-index l.rules) ≡ l.fn.into.items ++ flat_map rule_text l.rules;
  front : take (length l.fn.into.items) l.into.items ≡ l.fn.into.items;
}
