-- The lines printed and those left make up the text, and what stood before still does.
use Rattle.std.proofs.Common.{◌≡◌, ◌++◌, length, take, drop}
use Rattle.std.specs.List.{flat_map}
use Rattle.sect_report.proofs.printed.print_items.Given as goal

abbrev pub invariant-loop-item : goal.invariant-loop-item
invariant-loop-item g l = record {
  whole : l.into.items ++ flat_map g.P.Printed.lines (drop l.item-index l.items) ≡ l.fn.into.items ++ flat_map g.P.Printed.lines l.items;
  front : take (length l.fn.into.items) l.into.items ≡ l.fn.into.items;
}
