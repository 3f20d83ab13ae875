-- The bytes so far are digits, which make the number so far.
use Rattle.std.proofs.Common.{◌≡◌, ◌-◌, ◌<◌, ◌≤◌, ◌^◌, length, take}
use Rattle.std.specs.Str.Parse.{AllDigits}
use Rattle.sect_words.proofs.Parsing.{read_on}
use Rattle.sect_words.proofs.parts.Parts.take_digits.Given as goal

abbrev pub invariant-loop-count : goal.invariant-loop-count
invariant-loop-count l = record {
  fits : l.number < 2 ^ 64;
  some : 0 < l.count;
  within : l.count ≤ length l.text;
  digits : AllDigits 10 (take l.count l.text);
  value : l.number ≡ read_on 0 (take l.count l.text);
}

abbrev pub decreases-loop-count : goal.decreases-loop-count
decreases-loop-count l = length l.text - l.count
