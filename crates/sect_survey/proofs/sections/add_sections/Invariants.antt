-- the ids of the sections so far, behind the others
use Rattle.std.proofs.Common.{◌≡◌, ◌++◌, map, take}
use Rattle.sect_survey.proofs.sections.add_sections.Given as goal

abbrev pub invariant-loop-section : goal.invariant-loop-section
invariant-loop-section l = l.ids.items ≡ l.initial.ids.items ++ map (λ s. s.id) (take l.section-index l.sections)
