-- The lines printed and those left make up the text, and what stood before still does.
use Rattle.std.proofs.Common.{◌≡◌, ◌++◌, ◌-◌, length, take}
use Rattle.sect_shown.specs.Week.{slots_text}
use Rattle.sect_shown.proofs.week.print_slots.Given as goal

abbrev pub invariant-loop-slot : goal.invariant-loop-slot
invariant-loop-slot l = record {
  whole : l.into.items ++ slots_text l.hours l.slot (l.slots - l.slot) ≡ l.fn.into.items ++ slots_text l.hours 0 l.slots;
  front : take (length l.fn.into.items) l.into.items ≡ l.fn.into.items;
}
