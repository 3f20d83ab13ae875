-- the entries of the elements so far stand behind the first ones
use Rattle.std.proofs.Common.{◌≡◌, ◌++◌, take}
use Rattle.sect_catalog.specs.Place.{placed, config_entries}
use Rattle.sect_catalog.proofs.place.note_configs.Given as goal

abbrev pub invariant-loop-number : goal.invariant-loop-number
invariant-loop-number l = l.entries.items ≡ l.initial.entries.items ++ placed (config_entries l.at) 0 (take l.number l.configs)
