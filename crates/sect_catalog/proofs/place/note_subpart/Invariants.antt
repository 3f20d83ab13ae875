-- the entries of the elements so far stand behind the first ones
use Rattle.std.proofs.Common.{◌≡◌, ◌++◌, take}
use Rattle.sect_catalog.specs.Place.{placed, section_entry}
use Rattle.sect_catalog.proofs.place.note_subpart.Given as goal

abbrev pub invariant-loop-section : goal.invariant-loop-section
invariant-loop-section l = l.entries.items ≡ l.initial.entries.items ++ placed (section_entry l.at) 0 (take l.section l.row-items)
