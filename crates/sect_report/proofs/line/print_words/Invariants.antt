-- The words printed and those left make up the line, and what stood before still does.
use Rattle.std.proofs.Common.{◌≡◌, ◌++◌, length, map, take, drop}
use Rattle.sect_report.specs.Line.{more_words_text, word_text}
use Rattle.sect_report.proofs.line.print_words.Given as goal

abbrev pub invariant-loop-word : goal.invariant-loop-word
invariant-loop-word l = record {
  whole : l.into.items ++ more_words_text (map word_text (drop l.word-index l.others)) ≡ l.fn.into.items ++ (word_text l.fn.first ++ more_words_text (map word_text l.others));
  front : take (length l.fn.into.items) l.into.items ≡ l.fn.into.items;
}
