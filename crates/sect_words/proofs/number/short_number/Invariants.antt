-- The number so far and the digits left make the word's number, which has no more digits than were read, and all before them are digits.
use Rattle.std.proofs.Common.{◌≡◌, ◌<◌, ◌^◌, drop}
use Rattle.std.specs.Str.Parse.{AllDigits}
use Rattle.sect_words.proofs.Parsing.{read_on}
use Rattle.sect_words.proofs.number.short_number.Given as goal

abbrev pub invariant-loop-digit : goal.invariant-loop-digit
invariant-loop-digit l = record {
  below : l.number < 10 ^ l.digit-index;
  value : read_on l.number (drop l.digit-index l.word) ≡ read_on 0 l.word;
  left : AllDigits 10 l.word → AllDigits 10 (drop l.digit-index l.word);
  whole : AllDigits 10 (drop l.digit-index l.word) → AllDigits 10 l.word;
}
