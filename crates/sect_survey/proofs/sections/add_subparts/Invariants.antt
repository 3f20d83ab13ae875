-- the ids of the sections of the subparts so far, behind the others
use Rattle.std.proofs.Common.{◌≡◌, ◌++◌, map, take}
use Rattle.sect_catalog.specs.Catalogue.{sections_in}
use Rattle.sect_survey.proofs.sections.add_subparts.Given as goal

abbrev pub invariant-loop-subpart : goal.invariant-loop-subpart
invariant-loop-subpart l = l.ids.items ≡ l.initial.ids.items ++ map (λ s. s.id) (sections_in (take l.subpart-index l.subparts))
