-- the slots of the sections so far are taken
use Rattle.std.proofs.Common.{take}
use Rattle.sect_weeks.specs.Taken.{Adds, sections_take}
use Rattle.sect_weeks.proofs.calendar.add_sections.Given as goal

abbrev pub invariant-loop-section : goal.invariant-loop-section
invariant-loop-section l = Adds l.initial.calendar l.calendar (sections_take l.catalogue.rows (take l.section-index l.sections))
