-- The lines printed and those left make up the text, and what stood before still does.
use Rattle.std.proofs.Common.{◌≡◌, ◌++◌, length, take, drop, flat_map}
use Rattle.sect_shown.specs.Demand.{demand_line}
use Rattle.sect_shown.proofs.demand.print_each.Given as goal

abbrev pub invariant-loop-course : goal.invariant-loop-course
invariant-loop-course l = record {
  whole : l.into.items ++ flat_map (demand_line l.asks l.entries) (drop l.course-index l.courses) ≡ l.fn.into.items ++ flat_map (demand_line l.asks l.entries) l.courses;
  front : take (length l.fn.into.items) l.into.items ≡ l.fn.into.items;
}
