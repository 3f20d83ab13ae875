-- the entries of the elements so far stand behind the first ones
use Rattle.std.proofs.Common.{◌≡◌, ◌++◌, take}
use Rattle.sect_catalog.specs.Place.{placed, course_entry}
use Rattle.sect_catalog.proofs.place.note_courses.Given as goal

abbrev pub invariant-loop-config : goal.invariant-loop-config
invariant-loop-config l = l.entries.items ≡ l.initial.entries.items ++ placed (course_entry l.at) 0 (take l.config l.courses)
