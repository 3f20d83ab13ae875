-- the ids of the sections of the configurations so far, behind the others
use Rattle.std.proofs.Common.{◌≡◌, ◌++◌, map, flat_map, take}
use Rattle.sect_catalog.specs.Catalogue.{sections_in}
use Rattle.sect_survey.proofs.sections.add_configs.Given as goal

abbrev pub invariant-loop-config : goal.invariant-loop-config
invariant-loop-config l = l.ids.items ≡ l.initial.ids.items ++ map (λ s. s.id) (sections_in (flat_map (λ g. g.subparts) (take l.config-index l.configs)))
