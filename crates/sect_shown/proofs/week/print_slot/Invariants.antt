-- The lines printed and those left make up the text, and what stood before still does.
use Rattle.std.proofs.Common.{◌≡◌, ◌++◌, length, take, drop, flat_map}
use Rattle.sect_shown.specs.Week.{begun_text}
use Rattle.sect_shown.proofs.week.print_slot.Given as goal

abbrev pub invariant-loop-hour : goal.invariant-loop-hour
invariant-loop-hour l = record {
  whole : l.into.items ++ flat_map (begun_text l.day l.start) (drop l.hour-index l.hours) ≡ l.fn.into.items ++ flat_map (begun_text l.day l.start) l.hours;
  front : take (length l.fn.into.items) l.into.items ≡ l.fn.into.items;
}
