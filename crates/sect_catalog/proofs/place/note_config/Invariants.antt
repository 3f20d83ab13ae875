-- the entries of the elements so far stand behind the first ones
use Rattle.std.proofs.Common.{◌≡◌, ◌++◌, take}
use Rattle.sect_catalog.specs.Place.{placed, subpart_entries}
use Rattle.sect_catalog.proofs.place.note_config.Given as goal

abbrev pub invariant-loop-subpart : goal.invariant-loop-subpart
invariant-loop-subpart l = l.entries.items ≡ l.initial.entries.items ++ placed (subpart_entries l.at) 0 (take l.subpart l.row-items)
