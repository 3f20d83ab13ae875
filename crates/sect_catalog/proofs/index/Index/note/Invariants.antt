-- the entries so far are noted
use Rattle.std.proofs.Common.{take}
use Rattle.sect_catalog.specs.Place.{Notes}
use Rattle.sect_catalog.proofs.index.Index.note.Given as goal

abbrev pub invariant-loop-entry : goal.invariant-loop-entry
invariant-loop-entry l = Notes l.initial.self l.self (take l.entry-index l.entries)
