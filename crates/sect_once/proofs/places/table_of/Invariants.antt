use Rattle.std.proofs.Common.{◌≡◌, length, take}
use Rattle.sect_once.specs.Places.{IsTable}
use Rattle.sect_once.proofs.places.table_of.Given as goal

abbrev pub invariant-loop-place : goal.invariant-loop-place
invariant-loop-place l = record {
  table : IsTable (take l.place l.keys) l.slots.items;
  same : length l.slots.items ≡ l.count;
}
