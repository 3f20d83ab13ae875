-- the ids of the sections of the rows so far
use Rattle.std.proofs.Common.{◌≡◌, map, take}
use Rattle.sect_catalog.specs.Catalogue.{all_sections}
use Rattle.sect_survey.proofs.sections.section_ids.Given as goal

abbrev pub invariant-loop-row : goal.invariant-loop-row
invariant-loop-row l = l.ids.items ≡ map (λ s. s.id) (all_sections (take l.row-index l.rows))
